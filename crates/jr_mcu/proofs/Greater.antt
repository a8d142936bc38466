-- Predictions, component by component.
use Rattle.std.proofs.Common.{◌≡◌, ◌<◌, ℕ, zero, suc, List, [], ◌∷◌, length, get_or, set, refl, ap, ◌∙◌, arith}
use Rattle.std.specs.Prelude.{ℤ, pos, ◌+ℤ◌}
use Rattle.std.proofs.Common.{w16, w32}
use mir.Val.{SFits, to_z, of_z}
use Rattle.std.proofs.lemmas.Int.{ints, to_z-of_z}
use Rattle.std.specs.List.{All}
use Rattle.std.proofs.lemmas.List.Elements.{All-from_get_or}
use Rattle.jr_mcu.specs.Shift.{AreGreater, IsShifted, IsInMcuRange, IsSmall}

-- three sums
pub three_sums : (a b : List ℤ) (x y z : ℤ) → x ≡ get_or a 0 (pos 0) +ℤ get_or b 0 (pos 0) → y ≡ get_or a 1 (pos 0) +ℤ get_or b 1 (pos 0) → z ≡ get_or a 2 (pos 0) +ℤ get_or b 2 (pos 0) → AreGreater b a (x ∷ y ∷ z ∷ [])
three_sums a b x y z p q r zero lt = p
three_sums a b x y z p q r (suc zero) lt = q
three_sums a b x y z p q r (suc (suc zero)) lt = r
three_sums a b x y z p q r (suc (suc (suc c))) lt = absurd (omega arith)

pub three_all : (P : ℤ → Type 0) (x y z : ℤ) → P x → P y → P z → All P (x ∷ y ∷ z ∷ [])
three_all P x y z p q r zero d lt = p
three_all P x y z p q r (suc zero) d lt = q
three_all P x y z p q r (suc (suc zero)) d lt = r
three_all P x y z p q r (suc (suc (suc c))) d lt = absurd (omega arith)

pub three_within : (P : ℤ → Type 0) (ps : List ℤ) → length ps ≡ 3 → P (get_or ps 0 (pos 0)) → P (get_or ps 1 (pos 0)) → P (get_or ps 2 (pos 0)) → All P ps
three_within P ps three p q r = All-from_get_or P ps (pos 0) (λ c lt. at c (omega (arith, three, lt)))
  where
    at : (c : ℕ) → c < 3 → P (get_or ps c (pos 0))
    at zero lt = p
    at (suc zero) lt = q
    at (suc (suc zero)) lt = r
    at (suc (suc (suc c))) lt = absurd (omega (arith, lt))

-- a block with another DC coefficient
pub shifted_by : (block : List ℤ) (y : List ℤ) (by v : ℤ) → 0 < length block → y ≡ set block 0 v → v ≡ get_or block 0 (pos 0) +ℤ by → IsShifted by block y
shifted_by [] y by v some is sum = absurd (omega (arith, some))
shifted_by (first ∷ others) y by v some is sum = record { first = first; others = others; was = refl; is = is ∙ ap (λ (z : ℤ). z ∷ others) sum }

-- the sum of a number in the range of an MCU and a small one, after its casts
pub small_sum : (a b r : ℤ) → IsInMcuRange a → IsSmall b → SFits w16 a → r ≡ to_z w16 (of_z w16 a) → to_z w16 (of_z w16 (to_z w32 (of_z w32 (to_z w32 (of_z w32 r) +ℤ to_z w32 (of_z w32 b))))) ≡ a +ℤ b
small_sum a b r small_a small_b fits is =
    let low_a = small_a.0 in
    let high_a = small_a.1 in
    let low_b = small_b.0 in
    let high_b = small_b.1 in
    let e : r ≡ a = is ∙ to_z-of_z w16 a fits in
    let fits_a : SFits w32 a = grind (arith, ints) in
    let fits_b : SFits w32 b = grind (arith, ints) in
    let fits_16 : SFits w16 (a +ℤ b) = grind (arith, ints) in
    let fits_32 : SFits w32 (a +ℤ b) = grind (arith, ints) in
    let each : to_z w32 (of_z w32 r) +ℤ to_z w32 (of_z w32 b) ≡ a +ℤ b = ap (λ (x : ℤ). x +ℤ to_z w32 (of_z w32 b)) (ap (λ (x : ℤ). to_z w32 (of_z w32 x)) e ∙ to_z-of_z w32 a fits_a) ∙ ap (λ (x : ℤ). a +ℤ x) (to_z-of_z w32 b fits_b) in
    ap (λ (x : ℤ). to_z w16 (of_z w16 (to_z w32 (of_z w32 x)))) each ∙ ap (λ (x : ℤ). to_z w16 (of_z w16 x)) (to_z-of_z w32 (a +ℤ b) fits_32) ∙ to_z-of_z w16 (a +ℤ b) fits_16
