-- Two passes in lanes, with rows and columns exchanged between them.
use Rattle.std.proofs.Common.{◌≡◌, ℕ, ◌+◌, ◌*◌, ◌/◌, ◌%◌, ◌^◌, ◌<◌, pos, ◌+ℤ◌, ℤ, List, arith, ap, sym, ◌∙◌}
use Rattle.std.proofs.lemmas.Int.{ints}
use Rattle.jr_base.specs.declared.quantisers.TheConstants.{MAX_PRODUCT}
use Rattle.jr_idct.specs.Lanes.{lane, IsShort}
use Rattle.jr_idct.specs.Matrix.{floor_div, pass, row_sum, IsWithin}
use Rattle.jr_idct.specs.Transform.{column_pass}
use Rattle.jr_idct.proofs.FloorLaws.{floor_below, floor_above, floor_is}
use Rattle.jr_idct.proofs.Passes.{pass_same, row_sum_within, shr_within_2048, shr_within_262144, sum_same}

-- sums of small products fit, and so do the results of the first pass
pub first_short : (rows : List (List ℤ)) → ((k p : ℕ) → k < 8 → p < 16 → IsWithin MAX_PRODUCT (lane rows k p)) → (i p : ℕ) → i < 8 → p < 16 → IsShort 11 (row_sum i (λ k. lane rows k p) +ℤ pos 1024)
first_short rows small i p h g =
    let s = row_sum_within MAX_PRODUCT (λ k. lane rows k p) (λ k b. small k p b g) i h in
    ((omega (arith, ints, s), omega (arith, ints, s)), shr_within_2048 (row_sum i (λ k. lane rows k p) +ℤ pos 1024) 32767 (omega (arith, ints, s)) (omega (arith, ints, s)))

-- and so do sums of numbers of 16 bits, and the results of the second pass
pub second_short : (rows : List (List ℤ)) → ((k p : ℕ) → k < 8 → p < 16 → IsWithin 32767 (lane rows k p)) → (i p : ℕ) → i < 8 → p < 16 → IsShort 18 (row_sum i (λ k. lane rows k p) +ℤ pos 33685504)
second_short rows small i p h g =
    let s = row_sum_within 32767 (λ k. lane rows k p) (λ k b. small k p b g) i h in
    ((omega (arith, ints, s), omega (arith, ints, s)), shr_within_262144 (row_sum i (λ k. lane rows k p) +ℤ pos 33685504) 32767 (omega (arith, ints, s)) (omega (arith, ints, s)))

-- the level shift may come before the bits are dropped
level_shift : (z : ℤ) → floor_div (z +ℤ pos 33685504) 262144 ≡ floor_div (z +ℤ pos 131072) 262144 +ℤ pos 128
level_shift z =
    let q = floor_div (z +ℤ pos 131072) 262144 in
    let l = floor_below (z +ℤ pos 131072) 262144 (omega arith) in
    let h = floor_above (z +ℤ pos 131072) 262144 (omega arith) in
    sym (floor_is (z +ℤ pos 33685504) (q +ℤ pos 128) 262144 (omega arith) (omega (arith, ints, l)) (omega (arith, ints, h)))

module _ (x y z w : List (List ℤ))
    (first : (i p : ℕ) → i < 8 → p < 16 → lane y i p ≡ floor_div (row_sum i (λ k. lane x k p) +ℤ pos 1024) (2 ^ 11))
    (turned : (i p : ℕ) → i < 8 → p < 16 → lane z i p ≡ lane y (p % 8) (8 * (p / 8) + i))
    (second : (i p : ℕ) → i < 8 → p < 16 → lane w i p ≡ floor_div (row_sum i (λ k. lane z k p) +ℤ pos 33685504) (2 ^ 18)) where
  -- the lane of number i of a row of the block
  module _ (place : ℕ → ℕ) (below : (i : ℕ) → i < 8 → place i < 16) (column : (i : ℕ) → i < 8 → place i % 8 ≡ i) (block : (i k : ℕ) → i < 8 → k < 8 → 8 * (place i / 8) + k ≡ place k)
      (v : ℕ → ℤ) (is_x : (j k : ℕ) → j < 8 → k < 8 → lane x j (place k) ≡ v (8 * j + k)) where
    crossed : (a b : List (List ℤ)) → ((i p : ℕ) → i < 8 → p < 16 → lane a i p ≡ lane b (p % 8) (8 * (p / 8) + i)) → (i k : ℕ) → i < 8 → k < 8 → lane a i (place k) ≡ lane b k (place i)
    crossed a b e i k h g = e i (place k) h (below k g) ∙ (λ j. lane b (column k g j) (block k i g h j))

    column_is : (r k : ℕ) → r < 8 → k < 8 → lane z k (place r) ≡ column_pass v k r
    unfolding pass
    column_is r k h g =
        crossed z y turned k r g h
        ∙ first r (place k) h (below k g)
        ∙ pass_same 11 (λ j. lane x j (place k)) (λ j. v (8 * j + k)) r (λ j b. is_x j k b g)

    pub chain : (r c : ℕ) → r < 8 → c < 8 → lane w c (place r) ≡ pass 18 (λ k. column_pass v k r) c +ℤ pos 128
    unfolding pass
    chain r c h g =
        second c (place r) g (below r h)
        ∙ level_shift (row_sum c (λ k. lane z k (place r)))
        ∙ ap (λ s. floor_div (s +ℤ pos 131072) 262144 +ℤ pos 128) (sum_same (λ k. lane z k (place r)) (λ k. column_pass v k r) c (λ k b. column_is r k h b))
