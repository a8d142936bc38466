-- The samples of a view, by its data units.
use Rattle.std.proofs.Common.{◌≡◌, ℕ, Bool, false, inl, inr, ◌+◌, ◌*◌, ◌%◌, ◌<◌, List, length, get_or, replicate, slice_index, slice_index_or, sym, ap, ◌∙◌, arith}
use Rattle.std.proofs.lemmas.Bool.{cases_lt}
use Rattle.std.proofs.lemmas.List.{get_or-replicate, get_or_past, length-replicate}
use Rattle.std.proofs.lemmas.Nat.{mod_below}
use Rattle.jr_head.specs.Geometry.{blocks_of, mcus_of}
use Rattle.jr_paint.specs.Geometry.{spot_of}
use Rattle.jr_piece.specs.Units.{grey_unit}
use Rattle.jr_view.specs.ViewValue.{ViewValue}
use Rattle.jr_scan.specs.ScanValue.{ScanValue}
use Rattle.jr_view.specs.Views.{IsView, sample_in_view, unit_at, whole_rows}
use Rattle.jr_view.proofs.Rows.{no_rows}

-- each data unit of grey ones is grey, and so is what follows them
pub each_grey : (n i : ℕ) → slice_index_or (replicate n grey_unit) i grey_unit ≡ grey_unit
each_grey n i = elim (cases_lt i n) [
  | inl lt ↦ get_or-replicate n i grey_unit grey_unit lt
  | inr le ↦ get_or_past (replicate n grey_unit) i grey_unit (omega (arith, le, length-replicate n grey_unit))
]

-- if each data unit is grey each sample is
pub grey_samples : (v : ViewValue) → ((mcu k : ℕ) → unit_at v mcu k ≡ grey_unit) → (c x y : ℕ) → sample_in_view v c x y ≡ 128
unfolding sample_in_view
grey_samples v grey c x y =
    let h = v.scan.head in
    let s = spot_of h c x y in
    let below : 8 * (y % 8) + x % 8 < 64 = omega (arith, mod_below x 8 (omega arith), mod_below y 8 (omega arith)) in
    ap (λ u. slice_index u (8 * (y % 8) + x % 8)) (grey s.mcu s.block) ∙ get_or-replicate 64 (8 * (y % 8) + x % 8) 128 0 below

-- no MCU was seen if none is marked
pub unseen : (n m : ℕ) → get_or (replicate n false) m false ≡ false
unseen n m = elim (cases_lt m n) [
  | inl lt ↦ get_or-replicate n m false false lt
  | inr le ↦ get_or_past (replicate n false) m false (omega (arith, le, length-replicate n false))
]

-- what a view of which nothing was seen keeps
pub new_view : (of scan : ScanValue) (mcus n : ℕ) (units : List (List ℕ)) (seen : List Bool) → scan ≡ of → mcus ≡ mcus_of of.head → n ≡ blocks_of of.head → 0 < mcus → units ≡ replicate (mcus * n) grey_unit
    → seen ≡ replicate mcus false → IsView (record { scan = scan; units = units; seen = seen }) 0
unfolding whole_rows
new_view of scan mcus n units seen e m k some us bs =
    let all : mcus ≡ mcus_of scan.head = m ∙ sym (ap (λ (s : ScanValue). mcus_of s.head) e) in
    let per : n ≡ blocks_of scan.head = k ∙ sym (ap (λ (s : ScanValue). blocks_of s.head) e) in
    let long : length seen ≡ mcus_of scan.head = ap length bs ∙ length-replicate mcus false ∙ all in
    record {
      units = ap length us ∙ length-replicate (mcus * n) grey_unit ∙ ap (λ j. j * n) all ∙ ap (λ j. mcus_of scan.head * j) per;
      seen = long;
      rows = sym (no_rows scan.head seen (omega (arith, all, some)) long (λ j. ap (λ (ys : List Bool). get_or ys j false) bs ∙ unseen mcus j));
    }
