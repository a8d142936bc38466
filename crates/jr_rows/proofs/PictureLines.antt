-- A row of MCUs has the lines of the image.
use Rattle.std.proofs.Common.{◌≡◌, ℕ, inl, inr, ◌+◌, ◌*◌, ◌/◌, ◌%◌, ◌<◌, ◌≤◌, List, [], length, get_or, Option, Some, None, sym, ap, ◌∙◌, arith}
use Rattle.std.specs.Prelude.{slice_index, slice_index_or}
use Rattle.std.proofs.Math.Nat.{div-div-eq-div-mul, mul-add-div_right, mul-add-mod_self_right, mul-div-mul_left}
use Rattle.std.proofs.lemmas.Bool.{cases_lt}
use Rattle.std.proofs.lemmas.List.{get_or-replicate, get_or_past}
use Rattle.std.proofs.lemmas.Nat.{div-mul-add, mod-mul-add, mod_below, mul-add-lt}
use Rattle.std.proofs.lemmas.Option.{slice_get-get_or, slice_get_past}
use Rattle.jr_head.specs.HeadValue.{HeadValue}
use Rattle.jr_head.specs.Geometry.{IsValid, components_of, horizontal_of, vertical_of, horizontal_max, vertical_max, mcus_across, blocks_of}
use Rattle.jr_paint.specs.Geometry.{samples_across, samples_down}
use Rattle.jr_paint.specs.Lines.{line_of, next_lines_of}
use Rattle.jr_paint.proofs.Factors.{sampled_at, scaled_below}
use Rattle.jr_paint.proofs.PixelLaws.{flat_map-moved}
use Rattle.jr_paint.proofs.Places.{mcu_inside}
use Rattle.jr_mcu.specs.Mcus.{component}
use Rattle.jr_piece.specs.PieceValue.{PieceValue}
use Rattle.jr_piece.specs.Units.{grey_unit}
use Rattle.jr_picture.specs.DecodedScan.{DecodedScan, piece_at}
use Rattle.jr_picture.specs.Headline.{blank_of, interval_number, spot_of}
use Rattle.jr_picture.specs.Headline.{unit_number}
use Rattle.jr_picture.specs.Samples.{sample_in, sample_of_piece, samples_of}
use Rattle.jr_picture.proofs.DecodedPictures.{block_there, shown_is}
use Rattle.jr_picture.proofs.Pictures.{line_same}
use Rattle.jr_rows.specs.Bands.{sample_in_groups, samples_in, unit_shown_of, unit_shown, ShowsMcus}
use Rattle.jr_rows.specs.Groups.{group_of, groups_across, lines_before_component, unit_in, units_in}
use Rattle.jr_rows.proofs.GroupLists.{units_at, units_long}
use Rattle.jr_rows.proofs.GroupLists.{unit_sample as unit_at}
use Rattle.jr_rows.proofs.GroupNumbers.{on_line}
use Rattle.jr_rows.proofs.UnitComponents.{component_there}

-- the samples of a data unit of a decoded scan
unit_sample : (h : HeadValue) (c j n place : ℕ) (q : Option PieceValue) → component h j ≡ c → place < 64 → slice_index (unit_shown_of h j q n) place ≡ sample_of_piece h.kind c q n place
unit_sample h c j n place None e low = get_or-replicate 64 place (blank_of h.kind (component h j)) 0 low ∙ ap (blank_of h.kind) e
unit_sample h c j n place (Some p) e low = elim (cases_lt n (length p.samples)) [
  | inl there ↦ sym (ap (λ (o : Option (List ℕ)). sample_in o place) (slice_get-get_or p.samples n grey_unit there))
  | inr past ↦
      let grey : get_or p.samples n grey_unit ≡ grey_unit = get_or_past p.samples n grey_unit past in
      ap (λ (u : List ℕ). get_or u place 0) grey ∙ get_or-replicate 64 place 128 0 low ∙ sym (ap (λ (o : Option (List ℕ)). sample_in o place) (slice_get_past p.samples n past))
]

same_unit : (b : DecodedScan) (mcu j mcu' j' : ℕ) → mcu ≡ mcu' → j ≡ j' → unit_shown b mcu j ≡ unit_shown b mcu' j'
same_unit b mcu j mcu' j' e f = ap (λ (n : ℕ). unit_shown b n j) e ∙ ap (λ (n : ℕ). unit_shown b mcu' n) f

-- sample n after `g` groups of eight
in_eights : (groups : List (List ℕ)) (g x : ℕ) → sample_in_groups groups (8 * g + x) ≡ slice_index (slice_index_or groups (g + x / 8) []) (x % 8)
in_eights groups g x =
    let turned : 8 * g + x ≡ g * 8 + x = omega arith in
    let eights : (8 * g + x) / 8 ≡ g + x / 8 = ap (λ n. n / 8) turned ∙ mul-add-div_right (omega arith) g x in
    let rest : (8 * g + x) % 8 ≡ x % 8 = ap (λ n. n % 8) turned ∙ mul-add-mod_self_right g 8 x in
    ap (λ n. slice_index (slice_index_or groups n []) ((8 * g + x) % 8)) eights ∙ ap (λ n. slice_index (slice_index_or groups (g + x / 8) []) n) rest

-- the sample of a band is that of its data unit
in_band : (h : HeadValue) (l : IsValid h) (groups : List (List ℕ)) (c x y : ℕ) → c < components_of h → (let s = spot_of h c x y in
    samples_in (record { head = h; groups = groups }) c x y ≡ slice_index (unit_in h groups (x / (8 * horizontal_of h c)) s.block) (8 * (y % 8) + x % 8))
unfolding samples_in
in_band h l groups c x y p =
    let s = spot_of h c x y in
    let m = x / (8 * horizontal_of h c) in
    let row = mod_below y 8 (omega arith) in
    let col = mod_below x 8 (omega arith) in
    let turned : 8 * (y % 8) + x % 8 ≡ y % 8 * 8 + x % 8 = omega arith in
    let line : (8 * (y % 8) + x % 8) / 8 ≡ y % 8 = ap (λ n. n / 8) turned ∙ div-mul-add (y % 8) 8 (x % 8) col in
    let place : (8 * (y % 8) + x % 8) % 8 ≡ x % 8 = ap (λ n. n % 8) turned ∙ mod-mul-add (y % 8) 8 (x % 8) col in
    in_eights groups ((lines_before_component h c + y % (8 * vertical_of h c)) * groups_across h) x
    ∙ ap (λ n. slice_index (slice_index_or groups n []) (x % 8)) (sym (on_line h c x y l p))
    ∙ sym (unit_at h groups m s.block (8 * (y % 8) + x % 8) (omega (arith, row, col))
    ∙ ap (λ n. slice_index (slice_index_or groups (group_of h m s.block n) []) ((8 * (y % 8) + x % 8) % 8)) line
    ∙ ap (λ n. slice_index (slice_index_or groups (group_of h m s.block (y % 8)) []) n) place)

-- the line of samples that line k of a row of MCUs uses lies in that row
pub row_of : (r k a m : ℕ) → 0 < a → k < 8 * m → (r * (8 * m) + k) * a / m / (8 * a) ≡ r
row_of r k a m some lt =
    let n = r * (8 * m) + k in
    let turned : n * a ≡ a * n = grind arith in
    let whole : m * (8 * a) ≡ a * (8 * m) = grind arith in
    div-div-eq-div-mul (n * a) m (8 * a) ∙ ap (λ (d : ℕ). n * a / d) whole ∙ ap (λ (z : ℕ). z / (a * (8 * m))) turned ∙ mul-div-mul_left n (8 * m) some ∙ div-mul-add r (8 * m) k lt

module _ (b : DecodedScan) (l : IsValid b.scan.head) (r : ℕ) (groups : List (List ℕ)) (shows : ShowsMcus b (r * mcus_across b.scan.head) (units_in b.scan.head groups)) where
  -- the samples of a row are those of the image
  pub row_samples : (c x y : ℕ) → c < components_of b.scan.head → x < samples_across b.scan.head c → y < samples_down b.scan.head c → y / (8 * vertical_of b.scan.head c) ≡ r
      → samples_in (record { head = b.scan.head; groups = groups }) c x y ≡ samples_of b c x y
  row_samples c x y p left top e =
      let h = b.scan.head in
      let s = sampled_at h c l p in
      let across = horizontal_of h c in
      let blocks = blocks_of h in
      let spot = spot_of h c x y in
      let column = x / (8 * across) in
      let place = 8 * (y % 8) + x % 8 in
      let low : place < 64 = omega (arith, mod_below y 8 (omega arith), mod_below x 8 (omega arith)) in
      let few : column < mcus_across h = mcu_inside x h.width across (horizontal_max h) s.across l.components.across left in
      let inside : spot.block < blocks = block_there h c x y l p in
      let turned : blocks * mcus_across h ≡ mcus_across h * blocks = grind arith in
      let there : column * blocks + spot.block < mcus_across h * blocks = omega (arith, mul-add-lt column blocks spot.block (mcus_across h) few inside, turned) in
      let mcu : r * mcus_across h + (column * blocks + spot.block) / blocks ≡ spot.mcu = omega (arith, div-mul-add column blocks spot.block inside, ap (λ (n : ℕ). n * mcus_across h) e) in
      let unit = mod-mul-add column blocks spot.block inside in
      in_band h l groups c x y p
      ∙ ap (λ (u : List ℕ). slice_index u place)
      (sym (units_at h groups (column * blocks + spot.block) there
      ∙ ap (λ n. unit_in h groups n ((column * blocks + spot.block) % blocks)) (div-mul-add column blocks spot.block inside)
      ∙ ap (λ n. unit_in h groups column n) unit)
      ∙ shows (column * blocks + spot.block) (omega (arith, there, units_long h groups)) ∙ same_unit b (r * mcus_across h + (column * blocks + spot.block) / blocks) ((column * blocks + spot.block) % blocks) spot.mcu spot.block mcu unit)
      ∙ unit_sample h c spot.block (unit_number h spot) place (piece_at b (interval_number h spot.mcu)) (component_there h c x y l p) low
      ∙ sym (shown_is b c x y)

  -- and so are its lines
  pub row_lines : (y n from : ℕ) → y ≡ r * (8 * vertical_max b.scan.head) + from → from + n ≤ 8 * vertical_max b.scan.head → y + n ≤ b.scan.head.height
      → next_lines_of b.scan.head (samples_in (record { head = b.scan.head; groups = groups })) y n ≡ next_lines_of b.scan.head (samples_of b) y n
  row_lines y n from first most inside =
      let h = b.scan.head in
      let f = samples_in (record { head = h; groups = groups }) in
      let g = samples_of b in
      flat_map-moved (line_of h f) (line_of h g) y y n
      (λ k lt. line_same h l f g (y + k)
      (λ c x p left.
      let down = vertical_of h c in
      let s = sampled_at h c l p in
      let top = scaled_below (y + k) h.height down (vertical_max h) s.down l.components.down (omega (arith, lt, inside)) in
      let at : y + k ≡ r * (8 * vertical_max h) + (from + k) = omega (arith, first) in
      let row = ap (λ (z : ℕ). z * down / vertical_max h / (8 * down)) at ∙ row_of r (from + k) down (vertical_max h) s.down (omega (arith, lt, most)) in
      row_samples c x ((y + k) * down / vertical_max h) p left top row))
