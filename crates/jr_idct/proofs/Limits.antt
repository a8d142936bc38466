-- Coefficients within limits.
use Rattle.std.proofs.Common.{◌≡◌, ℕ, ◌*◌, ◌<◌, ◌≤◌, ℤ, pos, List, map, arith, sym, ◌∙◌, inl, inr}
use Rattle.std.proofs.Math.IntN.{◌*ℤ◌}
use Rattle.std.proofs.lemmas.Bool.{cases_lt}
use Rattle.std.proofs.lemmas.Int.{ints, unsigned_abs-mul}
use Rattle.std.proofs.lemmas.List.{get_or-map}
use Rattle.std.proofs.lemmas.Nat.{mul-le}
use Rattle.std.specs.Prelude.{slice_index, unsigned_abs}
use Rattle.jr_base.specs.Blocks.{AreFactors, AreLimits}
use Rattle.jr_base.specs.declared.quantisers.TheConstants.{MAX_PRODUCT}
use Rattle.jr_base.specs.Zigzag.{places, zigzag_place}
use Rattle.jr_idct.specs.Matrix.{at, IsWithin}
use Rattle.jr_idct.specs.Transform.{IsLow}

-- the product of a coefficient that is within its limit
limited : (z : ℤ) (l f : ℕ) → unsigned_abs z ≤ l → l * f ≤ MAX_PRODUCT → IsWithin MAX_PRODUCT (z *ℤ pos f)
limited z l f a b =
    let p : unsigned_abs (z *ℤ pos f) ≤ l * f = rw (unsigned_abs-mul z (pos f)) (mul-le (unsigned_abs z) f l f a (omega arith)) in
    (omega (arith, ints, p, b), omega (arith, ints, p, b))

-- a table's elements in natural order
factors_of : List ℕ → List ℕ
factors_of q = map (slice_index q) places

are_factors : (q : List ℕ) → AreFactors q (factors_of q)
unfolding zigzag_place factors_of
are_factors q n h = get_or-map (slice_index q) places n 0 0 h

pub small_products : (z q : List ℤ) (elements limits : List ℕ) → ((n : ℕ) → n < 64 → at q n ≡ at z (zigzag_place n)) → ((factors : List ℕ) → AreFactors elements factors → AreLimits factors limits)
    → ((n : ℕ) → n < 64 → unsigned_abs (at q n) ≤ slice_index limits n) → (n : ℕ) → n < 64 → IsWithin MAX_PRODUCT (at z (zigzag_place n) *ℤ pos (slice_index elements (zigzag_place n)))
small_products z natural elements limits is_natural are_limits within n h =
    rw (sym (is_natural n h), sym (are_factors elements n h))
    (limited (at natural n) (slice_index limits n) (slice_index (factors_of elements) n) (within n h) (are_limits (factors_of elements) (are_factors elements) n h))

-- the same of a block that is zero in rows and columns 4 to 7, if rows 0 to 3 are within the limits
pub low_small_products : (z natural : List ℤ) (elements limits : List ℕ) → ((n : ℕ) → n < 64 → at natural n ≡ at z (zigzag_place n)) → ((factors : List ℕ) → AreFactors elements factors → AreLimits factors limits)
    → IsLow (λ n. at z (zigzag_place n)) → ((n : ℕ) → n < 32 → unsigned_abs (at natural n) ≤ slice_index limits n) → (n : ℕ) → n < 64 → IsWithin MAX_PRODUCT (at z (zigzag_place n) *ℤ pos (slice_index elements (zigzag_place n)))
low_small_products z natural elements limits is_natural are_limits low within = small_products z natural elements limits is_natural are_limits all_within
  where
    all_within : (n : ℕ) → n < 64 → unsigned_abs (at natural n) ≤ slice_index limits n
    all_within n h =
        elim (cases_lt n 32) [
          | inl l ↦ within n l
          | inr g ↦ rw (is_natural n h ∙ low.0 n g h) (omega arith)
        ]
