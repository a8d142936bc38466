-- The lines of final rows of MCUs are those of every image that the bytes can become.
use Rattle.std.proofs.Common.{◌≡◌, ◌≢◌, ℕ, ◌+◌, ◌*◌, ◌/◌, ◌%◌, ◌<◌, ◌≤◌, inl, inr, List, [], ◌++◌, length, get_or, take, refl, sym, ap, subst, ◌∙◌, arith}
use Rattle.std.specs.Prelude.{ℤ}
use Rattle.std.proofs.lemmas.Bool.{cases_lt}
use Rattle.std.proofs.lemmas.List.{get_or-take}
use Rattle.std.proofs.lemmas.Nat.{div-add-mod', div-mul-add, mod_below}
use Rattle.std.proofs.Math.Nat.{mul-le-mul_right}
use Rattle.jr_head.specs.HeadValue.{HeadValue}
use Rattle.jr_head.specs.Geometry.{order_of, blocks_of, components_of, horizontal_of, vertical_of, horizontal_max, vertical_max, mcus_across, quantiser_of}
use Rattle.jr_head.proofs.SamplingLaws.{length-order}
use Rattle.jr_scan.specs.IntervalValue.{IntervalValue}
use Rattle.jr_scan.specs.ScanValue.{ScanValue, interval_of}
use Rattle.jr_scan.specs.Mcus.{Front}
use Rattle.jr_scan.proofs.ScanLaws.{one_decoding, one_front, shorter_front}
use Rattle.jr_paint.specs.Geometry.{samples_across, samples_down}
use Rattle.jr_paint.specs.Lines.{line_of, next_lines_of}
use Rattle.jr_paint.proofs.Factors.{sampled_at, scaled_below}
use Rattle.jr_paint.proofs.PixelLaws.{flat_map-moved}
use Rattle.jr_paint.proofs.Places.{mcu_inside}
use Rattle.jr_idct.specs.Transform.{samples}
use Rattle.jr_mcu.specs.Mcus.{component, block_of}
use Rattle.jr_picture.specs.declared.mark.Mark.{Mark}
use Rattle.jr_picture.specs.declared.mark.Mark.TheVariants.{Blank, Sound, Damaged}
use Rattle.jr_picture.specs.Headline.{interval_number, within_interval, spot_of, place_in, unit_number, decoded_sample, Holds, Shows, mark_in, ShowsFirst}
use Rattle.jr_picture.proofs.DecodedPictures.{block_there}
use Rattle.jr_picture.proofs.Pictures.{line_same, same_mark, same_shown}
use Rattle.jr_rows.specs.Rows.{first_line, line_count}
use Rattle.jr_rows.proofs.PictureLines.{row_of}
use Rattle.jr_arrival.specs.More.{with_more}
use Rattle.jr_arrival.proofs.MoreData.{front_is_final}
use Rattle.jr_arrival.specs.Arrival.{CanBecome}
use Rattle.jr_arrival.specs.LongerFile.{HasScan, HasEndedAt, IsNeverWhole, KeepsScan, IsSettled, RowIsSettled, lines_of_row}
use Rattle.jr_arrival.proofs.Knowing.{never_stays, same_longest, same_rest}
use Rattle.jr_arrival.proofs.ScansGoOn.{interval_is, scan_is_final}

-- ---- one interval

-- a longer prefix begins with a shorter one
front_begins : (i : IntervalValue) (j k : ℕ) (ys zs : List (List ℤ)) → k ≤ j → Front i j ys → Front i k zs → (n : ℕ) → n < length zs → (n < length ys) × (block_of ys n ≡ block_of zs n)
front_begins i j k ys zs le a b n lt =
    let per = length (order_of i.head) in
    let short = shorter_front i k j ys le a in
    let same : take (k * per) ys ≡ zs = one_front i k (take (k * per) ys) zs short b in
    let few : n < k * per = omega (arith, b.mcus.0, lt) in
    let all : k * per ≤ j * per = mul-le-mul_right per le in
    (omega (arith, few, all, a.mcus.0), sym (get_or-take (k * per) ys n [] few) ∙ ap (λ (l : List (List ℤ)). get_or l n []) same)

sample_by : IntervalValue → ℕ → ℕ → ℕ → List ℤ → ℕ
sample_by i c x y block = let n = unit_number i.head (spot_of i.head c x y) in get_or (samples block (quantiser_of i.head (component i.head n))) (place_in (spot_of i.head c x y)) 0

-- a marked interval shows the MCUs that its bits begin with
front_shown : (i : IntervalValue) (f : ℕ → ℕ → ℕ → ℕ) (m : Mark) → m ≢ Blank → Shows m i f → (k : ℕ) (zs : List (List ℤ)) → Front i k zs
    → (c x y : ℕ) → Holds i c x y → unit_number i.head (spot_of i.head c x y) < length zs → f c x y ≡ decoded_sample i zs c x y
unfolding sample_by
front_shown i f Blank not_blank p k zs front c x y held lt = absurd (not_blank refl)
front_shown i f Sound not_blank p k zs front c x y held lt =
    let all : Front i i.mcus p.blocks = record { at_most = omega arith; taken = p.decodes.taken; rest = p.decodes.padding; mcus = p.decodes.mcus; spelled = p.decodes.spelled } in
    p.samples c x y held ∙ ap (sample_by i c x y) (front_begins i i.mcus k p.blocks zs front.at_most all front (unit_number i.head (spot_of i.head c x y)) lt).1
front_shown i f Damaged not_blank p k zs front c x y held lt =
    let b = front_begins i p.front k p.blocks zs (p.longest.longest k zs front) p.longest.front front (unit_number i.head (spot_of i.head c x y)) lt in
    p.within c x y held b.0 ∙ ap (sample_by i c x y) b.1

-- and grey at an MCU that never becomes whole
never_shown : (i : IntervalValue) (f : ℕ → ℕ → ℕ → ℕ) (m : Mark) → m ≢ Blank → Shows m i f → (mcu : ℕ) → IsNeverWhole i mcu → (c x y : ℕ) → Holds i c x y
    → mcu * length (order_of i.head) ≤ unit_number i.head (spot_of i.head c x y) → f c x y ≡ 128
never_shown i f Blank not_blank p mcu n c x y held le = absurd (not_blank refl)
never_shown i f Sound not_blank p mcu n c x y held le =
    let all : Front i i.mcus p.blocks = record { at_most = omega arith; taken = p.decodes.taken; rest = p.decodes.padding; mcus = p.decodes.mcus; spelled = p.decodes.spelled } in
    let count : n.front ≡ i.mcus = omega (arith, n.longest.longest i.mcus p.blocks all, n.longest.front.at_most) in
    absurd (omega (arith, n.long, p.decodes.short, ap length (same_rest i n.front i.mcus n.blocks p.blocks count n.longest.front all)))
never_shown i f Damaged not_blank p mcu n c x y held le =
    let count : p.front ≡ n.front = same_longest i p.front n.front p.blocks n.blocks p.longest n.longest in
    let past : p.front * length (order_of i.head) ≤ mcu * length (order_of i.head) = mul-le-mul_right (length (order_of i.head)) (omega (arith, count, n.few)) in
    p.after c x y held (omega (arith, p.longest.front.mcus.0, past, le))

-- ---- two images

pub interval_more : (s t : ScanValue) (i : ℕ) (rest : List ℕ) → t.head ≡ s.head → get_or t.intervals i [] ≡ get_or s.intervals i [] ++ rest → interval_of t i ≡ with_more (interval_of s i) rest
interval_more s t i rest h d = interval_is s t i (get_or s.intervals i [] ++ rest) h d

module _ (bytes : List ℕ) (s t : ScanValue) (n : ℕ) (k m : List Mark) (f g : ℕ → ℕ → ℕ → ℕ) (keeps : KeepsScan bytes s t) (a : ShowsFirst s n k f) (b : ShowsFirst t n m g) where
  abbrev h : HeadValue
  h = s.head

  -- an interval that has ended has its mark
  ended_mark : (i : ℕ) → HasEndedAt bytes s i → mark_in k i ≡ mark_in m i
  ended_mark i e = elim (cases_lt i n) [
    | inl l ↦ same_mark (interval_of s i) f g (mark_in k i) (mark_in m i) (λ e. absurd (a.first.marked i l e)) (λ e. absurd (b.first.marked i l e)) (a.picture.each i) (subst (λ (v : IntervalValue). Shows (mark_in m i) v g) (keeps.whole i e) (b.picture.each i))
    | inr r ↦ a.first.blank i r ∙ sym (b.first.blank i r)
  ]

  ended_sample : (c x y : ℕ) → Holds (interval_of s (interval_number h (spot_of h c x y).mcu)) c x y → HasEndedAt bytes s (interval_number h (spot_of h c x y).mcu) → f c x y ≡ g c x y
  ended_sample c x y held e =
      let i = interval_number h (spot_of h c x y).mcu in
      let there = subst (λ (v : IntervalValue). Shows (mark_in m i) v g) (keeps.whole i e) (b.picture.each i) in
      same_shown one_decoding one_front (interval_of s i) f g (mark_in k i) (a.picture.each i) (subst (λ (w : Mark). Shows w (interval_of s i) g) (sym (ended_mark i e)) there) c x y held

  front_sample : (c x y : ℕ) (zs : List (List ℤ)) → Holds (interval_of s (interval_number h (spot_of h c x y).mcu)) c x y
      → Front (interval_of s (interval_number h (spot_of h c x y).mcu)) (within_interval h (spot_of h c x y).mcu + 1) zs → f c x y ≡ g c x y
  front_sample c x y zs held front =
      let spot = spot_of h c x y in
      let i = interval_number h spot.mcu in
      let count = within_interval h spot.mcu + 1 in
      let d = keeps.so_far i in
      let longer = with_more (interval_of s i) d.0 in
      let there = subst (λ (v : IntervalValue). Shows (mark_in m i) v g) (interval_more s t i d.0 keeps.head d.1) (b.picture.each i) in
      let per : length (order_of h) ≡ blocks_of h = length-order 0 h.components in
      let block = block_there h c x y a.valid held.component in
      let next : count * length (order_of h) ≡ within_interval h spot.mcu * blocks_of h + blocks_of h = ap (λ (p : ℕ). count * p) per ∙ grind arith in
      let lt : unit_number h spot < length zs = omega (arith, front.mcus.0, next, block) in
      let held' : Holds longer c x y = record { component = held.component; column = held.column; line = held.line; interval = held.interval } in
      elim (cases_lt i n) [
        | inl l ↦
            front_shown (interval_of s i) f (mark_in k i) (a.first.marked i l) (a.picture.each i) count zs front c x y held lt
            ∙ sym (front_shown longer g (mark_in m i) (b.first.marked i l) there count zs (front_is_final (interval_of s i) d.0 count zs front) c x y held' lt)
        | inr r ↦
            let p = subst (λ (w : Mark). Shows w (interval_of s i) f) (a.first.blank i r) (a.picture.each i) in
            let q = subst (λ (w : Mark). Shows w longer g) (b.first.blank i r) there in
            p c x y held ∙ sym (q c x y held')
      ]

  -- both images are grey, or blank, at an MCU that never becomes whole
  never_sample : (c x y : ℕ) → Holds (interval_of s (interval_number h (spot_of h c x y).mcu)) c x y
      → IsNeverWhole (interval_of s (interval_number h (spot_of h c x y).mcu)) (within_interval h (spot_of h c x y).mcu) → f c x y ≡ g c x y
  never_sample c x y held never =
      let spot = spot_of h c x y in
      let i = interval_number h spot.mcu in
      let mcu = within_interval h spot.mcu in
      let d = keeps.so_far i in
      let longer = with_more (interval_of s i) d.0 in
      let there = subst (λ (v : IntervalValue). Shows (mark_in m i) v g) (interval_more s t i d.0 keeps.head d.1) (b.picture.each i) in
      let per : length (order_of h) ≡ blocks_of h = length-order 0 h.components in
      let before : mcu * length (order_of h) ≡ mcu * blocks_of h = ap (λ (p : ℕ). mcu * p) per in
      let past : mcu * length (order_of h) ≤ unit_number h spot = omega (arith, before) in
      let held' : Holds longer c x y = record { component = held.component; column = held.column; line = held.line; interval = held.interval } in
      elim (cases_lt i n) [
        | inl l ↦
            never_shown (interval_of s i) f (mark_in k i) (a.first.marked i l) (a.picture.each i) mcu never c x y held past
            ∙ sym (never_shown longer g (mark_in m i) (b.first.marked i l) there mcu (never_stays (interval_of s i) d.0 mcu a.valid never) c x y held' past)
        | inr r ↦
            let p = subst (λ (w : Mark). Shows w (interval_of s i) f) (a.first.blank i r) (a.picture.each i) in
            let q = subst (λ (w : Mark). Shows w longer g) (b.first.blank i r) there in
            p c x y held ∙ sym (q c x y held')
      ]

  settled_sample : (c x y : ℕ) → c < components_of h → x < samples_across h c → y < samples_down h c → IsSettled bytes s (spot_of h c x y).mcu → f c x y ≡ g c x y
  settled_sample c x y lt left top settled =
      let i = interval_of s (interval_number h (spot_of h c x y).mcu) in
      let held : Holds i c x y = record { component = lt; column = left; line = top; interval = refl } in
      elim settled [ inl e ↦ ended_sample c x y held e | inr known ↦ elim known [ inl w ↦ front_sample c x y w.0 held w.1 | inr never ↦ never_sample c x y held never ] ]

  -- the row of MCUs that has a line is final
  abbrev LineIsSettled : ℕ → Type 0
  LineIsSettled line = RowIsSettled bytes s (line / (8 * vertical_max h))

  line_there : (line : ℕ) → line < h.height → LineIsSettled line → line_of h f line ≡ line_of h g line
  line_there line high settled = line_same h a.valid f g line
      (λ c x p left.
      let l = a.valid in
      let down = vertical_of h c in
      let q = sampled_at h c l p in
      let deep : 0 < 8 * vertical_max h = omega (arith, l.components.down) in
      let row = line / (8 * vertical_max h) in
      let rest = line % (8 * vertical_max h) in
      let whole : line ≡ row * (8 * vertical_max h) + rest = sym (div-add-mod' line (8 * vertical_max h)) in
      let y = line * down / vertical_max h in
      let top = scaled_below line h.height down (vertical_max h) q.down l.components.down high in
      let at : y / (8 * down) ≡ row = ap (λ (n : ℕ). n * down / vertical_max h / (8 * down)) whole ∙ row_of row rest down (vertical_max h) q.down (mod_below line (8 * vertical_max h) deep) in
      let column : x / (8 * horizontal_of h c) < mcus_across h = mcu_inside x h.width (horizontal_of h c) (horizontal_max h) q.across l.components.across left in
      let mcu : (spot_of h c x y).mcu ≡ row * mcus_across h + x / (8 * horizontal_of h c) = ap (λ (r : ℕ). r * mcus_across h + x / (8 * horizontal_of h c)) at in
      let next : (row + 1) * mcus_across h ≡ row * mcus_across h + mcus_across h = grind arith in
      settled_sample c x y p left top (settled (spot_of h c x y).mcu (omega (arith, mcu)) (omega (arith, mcu, next, column))))

  some_lines : (y count : ℕ) → ((j : ℕ) → j < count → (y + j < h.height) × LineIsSettled (y + j)) → next_lines_of h f y count ≡ next_lines_of t.head g y count
  some_lines y count settled =
      flat_map-moved (line_of h f) (line_of h g) y y count (λ j lt. line_there (y + j) (settled j lt).0 (settled j lt).1)
      ∙ ap (λ (v : HeadValue). next_lines_of v g y count) (sym keeps.head)

  kept_lines : (row : ℕ) → RowIsSettled bytes s row → lines_of_row h f row ≡ lines_of_row t.head g row
  kept_lines row settled =
      some_lines (first_line h row) (line_count h row)
      (λ j lt.
      let at = div-mul-add row (8 * vertical_max h) j (omega (arith, lt)) in
      (omega (arith, lt), subst (λ (r : ℕ). RowIsSettled bytes s r) (sym at) settled))
      ∙ ap (λ (v : HeadValue). next_lines_of t.head g (first_line v row) (line_count v row)) (sym keeps.head)

pub lines_are_final : (bytes file : List ℕ) (s t : ScanValue) (row n : ℕ) (k m : List Mark) (f g : ℕ → ℕ → ℕ → ℕ) → CanBecome bytes file → HasScan bytes s → HasScan file t → RowIsSettled bytes s row → ShowsFirst s n k f → ShowsFirst t n m g
    → lines_of_row s.head f row ≡ lines_of_row t.head g row
lines_are_final bytes file s t row n k m f g can x y settled a b = kept_lines bytes s t n k m f g (scan_is_final bytes file s t can x y) a b row settled

pub mark_is_final : (bytes file : List ℕ) (s t : ScanValue) (i n : ℕ) (k m : List Mark) (f g : ℕ → ℕ → ℕ → ℕ) → CanBecome bytes file → HasScan bytes s → HasScan file t → HasEndedAt bytes s i → ShowsFirst s n k f → ShowsFirst t n m g
    → mark_in k i ≡ mark_in m i
mark_is_final bytes file s t i n k m f g can x y e a b = ended_mark bytes s t n k m f g (scan_is_final bytes file s t can x y) a b i e
