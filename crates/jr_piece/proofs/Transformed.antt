-- The samples of blocks of two MCUs.
use Rattle.std.proofs.Common.{◌≡◌, ℕ, ◌+◌, ◌-◌, ◌*◌, ◌/◌, ◌%◌, ◌<◌, ◌≤◌, List, [], length, get_or, sym, ap, ◌∙◌, arith}
use Rattle.std.proofs.Math.Nat.{mul-add-mod_self_right}
use Rattle.std.proofs.lemmas.Nat.{div-add-mod'}
use Rattle.std.proofs.lemmas.List.{get_or_default}
use Rattle.std.proofs.lemmas.List.Edits.{get_or-between}
use Rattle.std.specs.List.{between}
use Rattle.jr_mcu.specs.Mcus.{component}
use Rattle.std.specs.Prelude.{ℤ}
use Rattle.jr_head.specs.HeadValue.{HeadValue}
use Rattle.jr_head.specs.Geometry.{order_of, quantiser_of}
use Rattle.jr_idct.specs.Transform.{samples}
use Rattle.jr_piece.specs.Outcome.{unit_of}

-- the samples of block n use the quantisers of the component of its position in its MCU
pub unit_is : (h : HeadValue) (zs : List (List ℤ)) (n k : ℕ) (z : List ℤ) (q : List ℕ) → n < length zs → z ≡ get_or zs n z → n % length (order_of h) ≡ k → q ≡ quantiser_of h (get_or (order_of h) k 0) → samples z q ≡ unit_of h zs n
unit_is h zs n k z q inside block place is =
    ap (λ (b : List ℤ). samples b q) (block ∙ get_or_default zs n z [] inside) ∙ ap (samples (get_or zs n [])) (is ∙ ap (λ (j : ℕ). quantiser_of h (get_or (order_of h) j 0)) (sym place))

-- a data unit of some of the blocks, starting at the first of an MCU, is one of all
pub unit_of_part : (h : HeadValue) (zs : List (List ℤ)) (done end i : ℕ) → done % length (order_of h) ≡ 0 → i < end - done → end ≤ length zs → unit_of h (between done end zs) i ≡ unit_of h zs (done + i)
unit_of_part h zs done end i first lt inside =
    let per = length (order_of h) in
    let whole : done + i ≡ done / per * per + i = omega (arith, first, div-add-mod' done per) in
    let place : i % per ≡ (done + i) % per = sym (ap (λ (n : ℕ). n % per) whole ∙ mul-add-mod_self_right (done / per) per i) in
    ap (λ (z : List ℤ). samples z (quantiser_of h (component h i))) (get_or-between zs done end i [] (omega (arith, lt)))
    ∙ ap (λ (n : ℕ). samples (get_or zs (done + i) []) (quantiser_of h (get_or (order_of h) n 0))) place
