-- The lines of a band lie within its groups.
use Rattle.std.proofs.Common.{◌≡◌, ℕ, ◌+◌, ◌-◌, ◌*◌, ◌/◌, ◌%◌, ◌<◌, ◌≤◌, List, length, ap, subst, ◌∙◌, arith}
use Rattle.std.proofs.lemmas.Nat.{div-add-mod', mod_below}
use Rattle.jr_head.specs.HeadValue.{HeadValue}
use Rattle.jr_head.specs.Geometry.{IsValid, components_of, horizontal_max, horizontal_of, mcus_across, vertical_of}
use Rattle.jr_paint.specs.Geometry.{samples_across}
use Rattle.jr_paint.proofs.Factors.{sampled_at}
use Rattle.jr_paint.proofs.Places.{mcu_inside}
use Rattle.jr_picture.specs.Headline.{spot_of}
use Rattle.jr_picture.proofs.DecodedPictures.{block_there}
use Rattle.jr_rows.specs.Groups.{groups_across, lines_before_component}
use Rattle.jr_rows.specs.RowLines.{HasGroups}
use Rattle.jr_rows.specs.BandValue.{BandValue}
use Rattle.jr_rows.specs.Bands.{sample_in_groups, samples_in}
use Rattle.jr_rows.proofs.GroupNumbers.{inside, on_line}

module _ (h : HeadValue) (l : IsValid h) (groups : List (List ℕ)) (space : HasGroups h (groups_across h) groups) (c y : ℕ) (p : c < components_of h) where
  pub sample_inside : (x : ℕ) → x < samples_across h c → 8 * ((lines_before_component h c + y % (8 * vertical_of h c)) * groups_across h) + x < 8 * length groups
  sample_inside x left =
      let s = sampled_at h c l p in
      let m = x / (8 * horizontal_of h c) in
      let few : m < mcus_across h = mcu_inside x h.width (horizontal_of h c) (horizontal_max h) s.across l.components.across left in
      let block = (spot_of h c x y).block in
      let low = mod_below y 8 (omega arith) in
      let there = inside h m block (y % 8) l few (block_there h c x y l p) low in
      let at = on_line h c x y l p in
      omega (arith, there, at, space.long, div-add-mod' x 8, mod_below x 8 (omega arith))

  pub line_inside : (x n : ℕ) → 0 < n → x + n ≤ samples_across h c → 8 * ((lines_before_component h c + y % (8 * vertical_of h c)) * groups_across h) + x + n ≤ 8 * length groups
  line_inside x n some left =
      let last = sample_inside (x + n - 1) (omega (arith, some, left)) in
      omega (arith, last, some)

-- the same of a band that is read through a reference
pub within : (i b : BandValue) → i ≡ b → IsValid i.head → HasGroups i.head (groups_across i.head) i.groups → (gs : List (List ℕ)) → gs ≡ i.groups → (c y x n start : ℕ) → c < components_of b.head
    → start ≡ 8 * ((lines_before_component b.head c + y % (8 * vertical_of b.head c)) * groups_across b.head) → 0 < n → x + n ≤ samples_across b.head c → start + x + n ≤ 8 * length gs
within i b e valid space gs same c y x n start p at some left =
    let own = subst IsValid (ap (λ (v : BandValue). v.head) e) valid in
    let there = subst (λ (v : BandValue). HasGroups v.head (groups_across v.head) v.groups) e space in
    let long : length gs ≡ length b.groups = ap (λ (l : List (List ℕ)). length l) (same ∙ ap (λ (v : BandValue). v.groups) e) in
    omega (arith, line_inside b.head own b.groups there c y p x n some left, at, long)

-- the samples of a band
pub shown : (i b : BandValue) → i ≡ b → (gs : List (List ℕ)) → gs ≡ i.groups → (c x y at : ℕ) → at ≡ 8 * ((lines_before_component b.head c + y % (8 * vertical_of b.head c)) * groups_across b.head) + x
    → sample_in_groups gs at ≡ samples_in b c x y
unfolding samples_in
shown i b e gs same c x y at is = ap (λ l. sample_in_groups l at) (same ∙ ap (λ (v : BandValue). v.groups) e) ∙ ap (sample_in_groups b.groups) is
