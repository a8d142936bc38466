-- Images of scans that have the same data in an interval.
use Rattle.std.proofs.Common.{◌≡◌, ℕ, ◌+◌, ◌-◌, ◌*◌, ◌/◌, ◌<◌, ◌≤◌, inl, inr, List, Some, get_or, min, cond, refl, sym, ap, subst, ◌∙◌, arith}
use Rattle.std.specs.List.{slice_get}
use Rattle.std.proofs.lemmas.Bool.{cases_lt}
use Rattle.std.proofs.lemmas.Bool.Decides.{eqb_tells}
use Rattle.std.proofs.lemmas.Nat.{div-add-mod', div-mul-add, mod_below}
use Rattle.std.proofs.lemmas.Option.{get_or_from_slice_get, slice_get_within}
use Rattle.std.proofs.Math.Nat.{div-div-eq-div-mul, mul-div-mul_right, mul-le-mul_right}
use Rattle.jr_scan.proofs.ScanLaws.{one_decoding, one_front}
use Rattle.jr_scan.specs.IntervalValue.{IntervalValue}
use Rattle.jr_scan.specs.ScanValue.{ScanValue, interval_of}
use Rattle.jr_damage.specs.Lines.{Touches}
use Rattle.jr_head.specs.HeadValue.{HeadValue}
use Rattle.jr_head.specs.Geometry.{horizontal_of, vertical_of, horizontal_max, vertical_max, mcus_across, mcus_down, mcus_of}
use Rattle.jr_head.specs.Intervals.{first_mcu_of, interval_number, mcus_in}
use Rattle.jr_paint.specs.Geometry.{spot_of}
use Rattle.jr_paint.specs.Lines.{line_of}
use Rattle.jr_paint.proofs.Factors.{sampled_at, scaled_below}
use Rattle.jr_paint.proofs.Places.{in_div_ceil, mcu_inside}
use Rattle.jr_picture.specs.declared.mark.Mark.{Mark}
use Rattle.jr_picture.specs.Headline.{Holds, Shows, ShowsFirst, mark_in}
use Rattle.jr_picture.proofs.Pictures.{line_same, same_mark, same_shown}
use Rattle.jr_mend.specs.declared.choice.Choice.{Choice}
use Rattle.jr_mend.specs.Copies.{CopyValue}
use Rattle.jr_mend.specs.Mended.{HasChosen}
use Rattle.jr_mend.proofs.Choices.{chosen_in}
use Rattle.jr_mend.proofs.ScanOfCopies.{same_interval}

-- an interval that both scans have is shown alike
module _ (s t : ScanValue) (n i : ℕ) (k m : List Mark) (f g : ℕ → ℕ → ℕ → ℕ) (same : interval_of s i ≡ interval_of t i) (a : ShowsFirst s n k f) (b : ShowsFirst t n m g) where
  there : Shows (mark_in m i) (interval_of s i) g
  there = subst (λ (v : IntervalValue). Shows (mark_in m i) v g) (sym same) (b.picture.each i)

  pub one_mark : mark_in k i ≡ mark_in m i
  one_mark = elim (cases_lt i n) [
    | inl l ↦ same_mark (interval_of s i) f g (mark_in k i) (mark_in m i) (λ e. absurd (a.first.marked i l e)) (λ e. absurd (b.first.marked i l e)) (a.picture.each i) there
    | inr r ↦ a.first.blank i r ∙ sym (b.first.blank i r)
  ]

  pub one_sample : (c x y : ℕ) → Holds (interval_of s i) c x y → f c x y ≡ g c x y
  one_sample = same_shown one_decoding one_front (interval_of s i) f g (mark_in k i) (a.picture.each i) (subst (λ (w : Mark). Shows w (interval_of s i) g) (sym one_mark) there)

-- an MCU is among those of its interval
own_interval : (r mcus mcu : ℕ) → 0 < r → mcu < mcus → (mcu / r * r ≤ mcu) × (mcu < mcu / r * r + min r (mcus - mcu / r * r))
own_interval r mcus mcu some lt =
    let whole = div-add-mod' mcu r in
    let rest = mod_below mcu r some in
    (omega (arith, whole), omega (arith, whole, rest, lt))

own_mcu : (h : HeadValue) (mcu : ℕ) → mcu < mcus_of h → (first_mcu_of h (interval_number h mcu) ≤ mcu) × (mcu < first_mcu_of h (interval_number h mcu) + mcus_in h (interval_number h mcu))
own_mcu h mcu lt = elim (eqb_tells h.restart 0) [
  | inl t ↦
      let number : interval_number h mcu ≡ 0 = ap (λ b. cond b 0 (mcu / h.restart)) t.0 in
      let all : mcus_in h 0 ≡ mcus_of h = ap (λ b. cond b (mcus_of h) (min h.restart (mcus_of h - 0 * h.restart))) t.0 in
      subst (λ (i : ℕ). (first_mcu_of h i ≤ mcu) × (mcu < first_mcu_of h i + mcus_in h i)) (sym number) (omega arith, omega (arith, all, lt))
  | inr f ↦
      let number : interval_number h mcu ≡ mcu / h.restart = ap (λ b. cond b 0 (mcu / h.restart)) f.0 in
      let i = mcu / h.restart in
      let some : mcus_in h i ≡ min h.restart (mcus_of h - i * h.restart) = ap (λ b. cond b (mcus_of h) (min h.restart (mcus_of h - i * h.restart))) f.0 in
      let own = own_interval h.restart (mcus_of h) mcu (omega (arith, f.1)) lt in
      subst (λ (j : ℕ). (first_mcu_of h j ≤ mcu) × (mcu < first_mcu_of h j + mcus_in h j)) (sym number) (own.0, omega (arith, own.1, some))
]

-- the row of MCUs of a line is that of its samples
row_of_line : (line a m : ℕ) → 0 < a → line * a / m / (8 * a) ≡ line / (8 * m)
row_of_line line a m some =
    let whole : m * (8 * a) ≡ 8 * m * a = grind arith in
    div-div-eq-div-mul (line * a) m (8 * a) ∙ ap (λ (d : ℕ). line * a / d) whole ∙ mul-div-mul_right line (8 * m) some

-- a line that intervals with the same data touch
module _ (s t : ScanValue) (n : ℕ) (k m : List Mark) (f g : ℕ → ℕ → ℕ → ℕ) (head : s.head ≡ t.head) (one : ShowsFirst s n k f) (other : ShowsFirst t n m g) where
  abbrev h : HeadValue
  h = s.head

  touched : (line mcu : ℕ) → line < h.height → mcu < mcus_of h → mcu / mcus_across h ≡ line / (8 * vertical_max h) → Touches h (interval_number h mcu) line
  touched line mcu high inside row =
      let own = own_mcu h mcu inside in
      record { mcu = mcu; from = own.0; before = own.1; covers = record { row = row; within = high } }

  pub same_line : (line : ℕ) → line < h.height → ((i : ℕ) → Touches h i line → (interval_of s i).bytes ≡ (interval_of t i).bytes) → line_of h f line ≡ line_of t.head g line
  same_line line high same =
      line_same h one.valid f g line
      (λ c x p left.
      let l = one.valid in
      let down = vertical_of h c in
      let q = sampled_at h c l p in
      let deep : 0 < 8 * vertical_max h = omega (arith, l.components.down) in
      let row = line / (8 * vertical_max h) in
      let y = line * down / vertical_max h in
      let top = scaled_below line h.height down (vertical_max h) q.down l.components.down high in
      let at : y / (8 * down) ≡ row = row_of_line line down (vertical_max h) q.down in
      let column : x / (8 * horizontal_of h c) < mcus_across h = mcu_inside x h.width (horizontal_of h c) (horizontal_max h) q.across l.components.across left in
      let mcu : (spot_of h c x y).mcu ≡ row * mcus_across h + x / (8 * horizontal_of h c) = ap (λ (r : ℕ). r * mcus_across h + x / (8 * horizontal_of h c)) at in
      let inside : (spot_of h c x y).mcu < mcus_of h = in_image row (mcus_across h) (x / (8 * horizontal_of h c)) (mcus_down h) (spot_of h c x y).mcu mcu column (in_div_ceil row h.height (8 * vertical_max h) deep (omega (arith, high, div-add-mod' line (8 * vertical_max h)))) in
      let there : (spot_of h c x y).mcu / mcus_across h ≡ row = ap (λ (j : ℕ). j / mcus_across h) mcu ∙ div-mul-add row (mcus_across h) (x / (8 * horizontal_of h c)) column in
      let i = interval_number h (spot_of h c x y).mcu in
      one_sample s t n i k m f g (same_interval s t i head (same i (touched line (spot_of h c x y).mcu high inside there))) one other c x y (record { component = p; column = left; line = top; interval = refl }))
      ∙ ap (λ (v : HeadValue). line_of v g line) head
    where
      in_image : (row across column down mcu : ℕ) → mcu ≡ row * across + column → column < across → row < down → mcu < across * down
      in_image row across column down mcu is left high =
          let next : (row + 1) * across ≤ down * across = mul-le-mul_right across (omega (arith, high)) in
          let more : (row + 1) * across ≡ row * across + across = grind arith in
          let turned : across * down ≡ down * across = grind arith in
          omega (arith, is, left, next, more, turned)

-- an interval of a mended file is that of the copy from which it is taken
pub taken_from : (copies : List CopyValue) (choices : List Choice) (file : List ℕ) (m : HasChosen copies choices file) (i : ℕ) (c : Choice) (copy : CopyValue) → slice_get choices i ≡ Some c → slice_get copies c.copy ≡ Some copy → interval_of m.scan i ≡ interval_of copy.scan i
taken_from copies choices file m i c copy chosen is =
    let there : get_or choices i c ≡ c = get_or_from_slice_get choices i c c chosen in
    let choice = m.chosen i c (slice_get_within choices i c chosen) in
    let copy_is : slice_get copies (get_or choices i c).copy ≡ Some copy = ap (λ (d : Choice). slice_get copies d.copy) there ∙ is in
    let number = (get_or choices i c).copy in
    let at : copy ≡ get_or copies number copy = sym (get_or_from_slice_get copies number copy copy copy_is) in
    sym (chosen_in copies i number (interval_of m.scan i) copy choice.is at)
