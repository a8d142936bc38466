-- The pass over a column in 64 bits: the sum of its two halves.
use Rattle.std.proofs.Common.{arith, ◌≡◌, ℕ, ◌+◌, ◌-◌, ◌*◌, ◌<◌, ◌≤◌, ◌+ℤ◌, ◌-ℤ◌, ℤ, List, [], ◌∷◌, sym, ap, subst, ◌∙◌, w64, to_z, of_z, FitsSigned}
use Rattle.std.proofs.lemmas.Int.{ints, to_z-of_z}
use Rattle.jr_idct.specs.Matrix.{IsWithin, at, even_sum, odd_sum, row_sum, wide_reach, row_weight}
use Rattle.jr_idct.proofs.Passes.{row_sum_within, sum_is_row, difference_is_row}

-- z after the code's casts
abbrev pub passed : ℤ → ℤ
passed z = to_z w64 (of_z w64 z)

-- e and o, the halves' parts of entry i of v, make entry i and entry 7 - i, and both fit
pub record Joined (v : ℕ → ℤ) (i : ℕ) (e o : ℤ) : Type 0 where
  pub sum : passed e +ℤ passed o ≡ row_sum i v
  pub difference : passed e -ℤ passed o ≡ row_sum (7 - i) v
  pub small_sum : IsWithin (row_weight * wide_reach) (passed e +ℤ passed o)
  pub small_difference : IsWithin (row_weight * wide_reach) (passed e -ℤ passed o)

-- a number within n stays small after the casts
pub passed_within : (n : ℕ) (z : ℤ) → n ≤ wide_reach → IsWithin n z → IsWithin wide_reach (passed z)
passed_within n z few small =
    let f : FitsSigned w64 z = omega (arith, ints) in
    subst (IsWithin wide_reach) (sym (to_z-of_z w64 z f)) (omega (arith, ints), omega (arith, ints))

module _ (t : List ℤ) (small : (k : ℕ) → k < 64 → IsWithin wide_reach (at t k)) (c : ℕ) (below : c < 8) where
  read : (i j : ℕ) → i < 64 → i ≡ 8 * j + c → passed (at t i) ≡ at t (8 * j + c)
  read i j h e =
      let s = small i h in
      let f : FitsSigned w64 (at t i) = omega (arith, ints) in
      to_z-of_z w64 (at t i) f ∙ ap (λ k. at t k) e

  pub joined : (i : ℕ) → i < 4 → (e o : ℤ) → FitsSigned w64 e → FitsSigned w64 o
      → e ≡ even_sum i (passed (at t c) ∷ passed (at t (c + 16)) ∷ passed (at t (c + 32)) ∷ passed (at t (c + 48)) ∷ [])
      → o ≡ odd_sum i (passed (at t (c + 8)) ∷ passed (at t (c + 24)) ∷ passed (at t (c + 40)) ∷ passed (at t (c + 56)) ∷ [])
      → Joined (λ j. at t (8 * j + c)) i e o
  joined i h e o f g is_even is_odd =
      let v : ℕ → ℤ = λ j. at t (8 * j + c) in
      let x0 = read c 0 (omega arith) (omega arith) in
      let x1 = read (c + 8) 1 (omega arith) (omega arith) in
      let x2 = read (c + 16) 2 (omega arith) (omega arith) in
      let x3 = read (c + 24) 3 (omega arith) (omega arith) in
      let x4 = read (c + 32) 4 (omega arith) (omega arith) in
      let x5 = read (c + 40) 5 (omega arith) (omega arith) in
      let x6 = read (c + 48) 6 (omega arith) (omega arith) in
      let x7 = read (c + 56) 7 (omega arith) (omega arith) in
      let is_e : passed e ≡ even_sum i (v 0 ∷ v 2 ∷ v 4 ∷ v 6 ∷ []) = to_z-of_z w64 e f ∙ rw (x0, x2, x4, x6) at is_even in
      let is_o : passed o ≡ odd_sum i (v 1 ∷ v 3 ∷ v 5 ∷ v 7 ∷ []) = to_z-of_z w64 o g ∙ rw (x1, x3, x5, x7) at is_odd in
      let sum : passed e +ℤ passed o ≡ row_sum i v = rw (is_e, is_o) (sum_is_row v i h) in
      let difference : passed e -ℤ passed o ≡ row_sum (7 - i) v = rw (is_e, is_o) (difference_is_row v i h) in
      let within = row_sum_within wide_reach v (λ k b. small (8 * k + c) (omega arith)) in
      record { sum = sum; difference = difference; small_sum = rw sum (within i (omega arith)); small_difference = rw difference (within (7 - i) (omega arith)) }
