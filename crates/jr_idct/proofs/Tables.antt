-- The zigzag tables.
use Rattle.std.proofs.Common.{◌≡◌, ℕ, ◌<◌, ◌-◌, get_or, true, false, refl, arith, nat_lt}
use Rattle.std.proofs.lemmas.List.Folds.{list_all_at}
use Rattle.std.proofs.lemmas.Bool.{cases_lt}
use Rattle.std.proofs.Common.{inl, inr}
use Rattle.std.proofs.lemmas.Bool.Decides.{nat_tests}
use Rattle.jr_idct.specs.Matrix.{IsWithin}
use Rattle.jr_idct.specs.Transform.{places, zigzag_place}
use Rattle.std.specs.List.{list_all, range_with_len}
use Rattle.std.proofs.lemmas.List.FromFn.{get_or-range_with_len}
use Rattle.std.specs.Prelude.{slice_index, ◌^◌, ℤ, pos, FitsSigned}
use Rattle.std.proofs.Common.{w32, w64, to_z, of_z, lit<, ◌∙◌}
use Rattle.std.proofs.Math.IntN.{◌*ℤ◌}
use Rattle.std.proofs.lemmas.Int.{ints, to_z-of_z, fits_signed_mul}

in_table : list_all (λ p. nat_lt p 64) places ≡ true
in_table = refl

pub place_below : (n : ℕ) → n < 64 → zigzag_place n < 64
unfolding zigzag_place
place_below n h =
    elim (cases_lt (slice_index places n) 64) [
      | inl a ↦ a
      | inr b ↦ let e : nat_lt (slice_index places n) 64 ≡ false = grind (arith, nat_tests) in absurd (cc (list_all_at (λ p. nat_lt p 64) places n 0 h e, in_table))
    ]

zero_first : list_all (λ n. nat_lt 0 (slice_index places n)) (range_with_len 1 63) ≡ true
zero_first = refl

-- the zigzag position of an index above 0 is above 0
pub place_positive : (n : ℕ) → 0 < n → n < 64 → 0 < zigzag_place n
unfolding zigzag_place
place_positive n p h =
    elim (cases_lt 0 (slice_index places n)) [
      | inl a ↦ a
      | inr b ↦
          let e : nat_lt 0 (slice_index places n) ≡ false = grind (arith, nat_tests) in
          let r : get_or (range_with_len 1 63) (n - 1) 0 ≡ n = get_or-range_with_len 1 63 (n - 1) 0 (omega arith) ∙ omega arith in
          let g : nat_lt 0 (slice_index places (get_or (range_with_len 1 63) (n - 1) 0)) ≡ false = rw r e in
          let l : n - 1 < 63 = omega arith in
          absurd (cc (list_all_at (λ k. nat_lt 0 (slice_index places k)) (range_with_len 1 63) (n - 1) 0 l g, zero_first))
    ]

pub zigzag_place_0 : zigzag_place 0 ≡ 0
unfolding zigzag_place
zigzag_place_0 = refl

-- what the code computes for the product of an `i32` and a `u16`
pub product_stored : (x y a : ℤ) (b : ℕ) → FitsSigned w32 a → b < 65536 → x ≡ to_z w32 (of_z w32 a) → y ≡ pos b
    → to_z w64 (of_z w64 (to_z w64 (of_z w64 x) *ℤ to_z w64 (of_z w64 y))) ≡ a *ℤ pos b
product_stored x y a b fits below is_x is_y =
    let e : x ≡ a = is_x ∙ to_z-of_z w32 a fits in
    let f : FitsSigned w64 a = omega (arith, ints) in
    let g : FitsSigned w64 (pos b) = omega (arith, ints) in
    let h : FitsSigned w64 (a *ℤ pos b) = fits_signed_mul w64 a (pos b) (2 ^ 31) (2 ^ 16) (omega (arith, ints)) (omega arith) (lit< tt) in
    rw (e, is_y) (simp to_z-of_z refl)

-- the same in 32 bits
pub narrow_product_stored : (y a : ℤ) (b : ℕ) → IsWithin 32768 a → b < 65536 → y ≡ pos b
    → to_z w32 (of_z w32 (to_z w32 (of_z w32 a) *ℤ to_z w32 (of_z w32 y))) ≡ a *ℤ pos b
narrow_product_stored y a b small below is_y =
    let f : FitsSigned w32 a = omega (arith, ints) in
    let g : FitsSigned w32 (pos b) = omega (arith, ints) in
    let h : FitsSigned w32 (a *ℤ pos b) = fits_signed_mul w32 a (pos b) 32768 65535 (omega (arith, ints)) (omega arith) (lit< tt) in
    rw is_y (simp to_z-of_z refl)
