-- The sums of both halves of a pass, from the products that its steps share.
use Rattle.std.proofs.Common.{arith, ◌≡◌, ℕ, ◌*◌, ◌<◌, ◌≤◌, pos, neg_ℤ, ◌+ℤ◌, ◌-ℤ◌, ℤ, List, [], ◌∷◌, sym, subst}
use Rattle.std.proofs.Math.IntN.{◌*ℤ◌}
use Rattle.std.proofs.lemmas.Int.{ints}
use Rattle.jr_idct.specs.Matrix.{at, even_sum, odd_sum, weight, IsInBounds, IsWithin}
use Rattle.jr_idct.proofs.Passes.{below_four, even_sum_within, odd_sum_within}

wide : (w n : ℕ) (z : ℤ) → w * n ≤ 61214 * n → IsWithin (w * n) z → IsInBounds n z
wide w n z few small = (omega (arith, ints), omega (arith, ints))

module _ (v0 v2 v4 v6 : ℤ) where
  -- what the numbers 0, 2, 4 and 6 of a pass add to entry i
  abbrev pub even_entry : ℕ → ℤ
  even_entry i = even_sum i (v0 ∷ v2 ∷ v4 ∷ v6 ∷ [])

  pub even_entry_0 : (s m outer : ℤ) → s ≡ v0 +ℤ v4 → m ≡ pos 8192 *ℤ s → outer ≡ weight 0 2 *ℤ v2 +ℤ weight 0 6 *ℤ v6 → m +ℤ outer ≡ even_entry 0
  even_entry_0 s m outer is_s is_m is_outer = omega (arith, ints)

  pub even_entry_1 : (s m inner : ℤ) → s ≡ v0 -ℤ v4 → m ≡ pos 8192 *ℤ s → inner ≡ weight 1 2 *ℤ v2 +ℤ weight 1 6 *ℤ v6 → m +ℤ inner ≡ even_entry 1
  even_entry_1 s m inner is_s is_m is_inner = omega (arith, ints)

  pub even_entry_2 : (s m inner : ℤ) → s ≡ v0 -ℤ v4 → m ≡ pos 8192 *ℤ s → inner ≡ weight 1 2 *ℤ v2 +ℤ weight 1 6 *ℤ v6 → m -ℤ inner ≡ even_entry 2
  even_entry_2 s m inner is_s is_m is_inner = omega (arith, ints)

  pub even_entry_3 : (s m outer : ℤ) → s ≡ v0 +ℤ v4 → m ≡ pos 8192 *ℤ s → outer ≡ weight 0 2 *ℤ v2 +ℤ weight 0 6 *ℤ v6 → m -ℤ outer ≡ even_entry 3
  even_entry_3 s m outer is_s is_m is_outer = omega (arith, ints)

  -- a sum of numbers within n is in the range of a pass
  pub even_in_bounds : (n : ℕ) → IsWithin n v0 → IsWithin n v2 → IsWithin n v4 → IsWithin n v6 → (i : ℕ) → i < 4 → (z : ℤ) → z ≡ even_entry i → IsInBounds n z
  even_in_bounds n w0 w2 w4 w6 i h z is =
      let xs : List ℤ = v0 ∷ v2 ∷ v4 ∷ v6 ∷ [] in
      let small : IsWithin (31521 * n) (even_entry i) = even_sum_within n xs (below_four (λ k. IsWithin n (at xs k)) w0 w2 w4 w6) i h in
      subst (IsInBounds n) (sym is) (wide 31521 n (even_entry i) (omega arith) small)

module _ (v1 v3 v5 v7 : ℤ) where
  -- what the numbers 1, 3, 5 and 7 of a pass add to entry i
  abbrev pub odd_entry : ℕ → ℤ
  odd_entry i = odd_sum i (v1 ∷ v3 ∷ v5 ∷ v7 ∷ [])

  pub entry_0 : (s z m own shared : ℤ) → s ≡ v7 +ℤ v1 → z ≡ neg_ℤ (pos 7373) *ℤ s → m ≡ pos 12299 *ℤ v1 → own ≡ m +ℤ z
      → shared ≡ weight 0 5 *ℤ (v5 +ℤ v1) +ℤ weight 0 3 *ℤ (v7 +ℤ v3) → own +ℤ shared ≡ odd_entry 0
  entry_0 s z m own shared is_s is_z is_m is_own is_shared = omega (arith, ints)

  pub entry_1 : (s z m own shared : ℤ) → s ≡ v5 +ℤ v3 → z ≡ neg_ℤ (pos 20995) *ℤ s → m ≡ pos 25172 *ℤ v3 → own ≡ m +ℤ z
      → shared ≡ weight 1 1 *ℤ (v5 +ℤ v1) +ℤ weight 1 7 *ℤ (v7 +ℤ v3) → own +ℤ shared ≡ odd_entry 1
  entry_1 s z m own shared is_s is_z is_m is_own is_shared = omega (arith, ints)

  pub entry_2 : (s z m own shared : ℤ) → s ≡ v5 +ℤ v3 → z ≡ neg_ℤ (pos 20995) *ℤ s → m ≡ pos 16819 *ℤ v5 → own ≡ m +ℤ z
      → shared ≡ weight 0 5 *ℤ (v5 +ℤ v1) +ℤ weight 0 3 *ℤ (v7 +ℤ v3) → own +ℤ shared ≡ odd_entry 2
  entry_2 s z m own shared is_s is_z is_m is_own is_shared = omega (arith, ints)

  pub entry_3 : (s z m own shared : ℤ) → s ≡ v7 +ℤ v1 → z ≡ neg_ℤ (pos 7373) *ℤ s → m ≡ pos 2446 *ℤ v7 → own ≡ m +ℤ z
      → shared ≡ weight 1 1 *ℤ (v5 +ℤ v1) +ℤ weight 1 7 *ℤ (v7 +ℤ v3) → own +ℤ shared ≡ odd_entry 3
  entry_3 s z m own shared is_s is_z is_m is_own is_shared = omega (arith, ints)

  -- a sum of numbers within n is in the range of a pass
  pub odd_in_bounds : (n : ℕ) → IsWithin n v1 → IsWithin n v3 → IsWithin n v5 → IsWithin n v7 → (i : ℕ) → i < 4 → (z : ℤ) → z ≡ odd_entry i → IsInBounds n z
  odd_in_bounds n w1 w3 w5 w7 i h z is =
      let xs : List ℤ = v1 ∷ v3 ∷ v5 ∷ v7 ∷ [] in
      let small : IsWithin (29693 * n) (odd_entry i) = odd_sum_within n xs (below_four (λ k. IsWithin n (at xs k)) w1 w3 w5 w7) i h in
      subst (IsInBounds n) (sym is) (wide 29693 n (odd_entry i) (omega arith) small)
