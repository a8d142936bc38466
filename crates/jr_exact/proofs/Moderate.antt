-- Ideal values that are near to one number have coefficients of a small energy.
use Rattle.std.proofs.Common.{arith, ◌≡◌, ℕ, suc, ◌+◌, ◌*◌, ◌^◌, ◌<◌, ◌≤◌, ℤ, pos, negsuc, ◌*ℤ◌, ◌≤ℤ◌, sym, ◌∙◌, inl, inr, mul-le-mul, mul-le-mul_left}
use Rattle.std.proofs.lemmas.Bool.{cases_lt}
use Rattle.std.proofs.lemmas.Int.{ints}
use Rattle.jr_idct.specs.Matrix.{IsWithin, row_sum, sum_below}
use Rattle.jr_idct.specs.Ideal.{RootsAgree, ideal, energy, root}
use Rattle.jr_idct.proofs.Cosines.{from_squares}
use Rattle.jr_idct.proofs.Energy.{AreSmall, squares, energy_is, by_cauchy, weights_by_energy, square_is}
use Rattle.jr_exact.proofs.Parseval.{square, all_squares, both_kept}
use Rattle.jr_idct.proofs.Roundings.{column_sum}
use Rattle.jr_idct.proofs.Squares.{adds, sum-pos}
use Rattle.jr_idct.proofs.Sums.{same_sums, sum_at_most, IsAtMost}
use Rattle.jr_idct.proofs.Whole.{product_within}

both : (a s : ℕ) (t : ℤ) → (pos 536346624 *ℤ (pos 536346624 *ℤ pos a)) ≤ℤ t → t ≤ℤ pos s → 536346624 * (536346624 * a) ≤ s
both a s t p q = omega (arith, ints, p, q)

-- the squares of all numbers but the first are at most those of all, by columns
by_columns : (f : ℕ → ℕ) → adds 63 (λ k. f (suc k)) ≤ adds 8 (λ u. adds 8 (λ v. f (8 * v + u)))
unfolding adds
by_columns f = omega arith

energy_adds : (x : ℕ → ℤ) → energy x ≡ pos (adds 63 (λ k. square (x (suc k))))
unfolding energy
energy_adds x = same_sums 63 _ (λ k. pos (square (x (suc k)))) (λ k _. square_is (x (suc k))) ∙ sum-pos 63 (λ k. square (x (suc k)))

cancelled : (n a b : ℕ) → 0 < n → n * a ≤ n * b → a ≤ b
cancelled n a b p h = elim (cases_lt b a) [
  | inl l ↦ let m : n * (b + 1) ≤ n * a = mul-le-mul_left n (omega (arith, l)) in absurd (omega (arith, p, h, m))
  | inr g ↦ g
]

divided : (n b : ℕ) (t : ℤ) → 0 < n → IsWithin (n * b) (pos n *ℤ t) → IsWithin b t
divided n b (pos t) p w = let c = cancelled n t b p (omega (arith, ints, w)) in (omega (arith, ints, c), omega (arith, ints, c))
divided n b (negsuc t) p w = let c = cancelled n (suc t) b p (omega (arith, ints, w)) in (omega (arith, ints, c), omega (arith, ints, c))

constant : (b : ℕ) → sum_below 8 (λ r. sum_below 8 (λ c. pos b)) ≡ pos (64 * b)
unfolding sum_below
constant b = omega (arith, ints)

module _ (n : ℕ) (x : ℕ → ℤ) (large : 10 ^ 6 ≤ n) (near : (r c : ℕ) → r < 8 → c < 8 → IsWithin (3392 * n) (ideal n x r c)) (small : AreSmall) where
  all : ℕ
  all = adds 8 (λ u. adds 8 (λ v. square (x (8 * v + u))))

  all_is : all_squares x ≡ pos all
  unfolding all_squares all
  all_is =
      same_sums 8 _ (λ u. pos (adds 8 (λ v. square (x (8 * v + u)))))
      (λ u _. same_sums 8 _ (λ v. pos (square (x (8 * v + u)))) (λ v _. square_is (x (8 * v + u))) ∙ sum-pos 8 (λ v. square (x (8 * v + u))))
      ∙ sum-pos 8 (λ u. adds 8 (λ v. square (x (8 * v + u))))

  few : squares n x 0 0 ≤ all
  unfolding all
  few = let m = by_columns (λ k. square (x k)) in let is = sym (energy_is n x 0 0) ∙ energy_adds x in omega (arith, ints, m, is)

  same_squares : (r c : ℕ) → squares n x r c ≡ squares n x 0 0
  same_squares r c = let is = sym (energy_is n x r c) ∙ energy_is n x 0 0 in omega (arith, ints, is)

  -- the sum of both passes, for an energy of at most the square of b
  value : ℕ → ℕ → ℤ
  value r c = row_sum c (column_sum x r)

  bound : ℕ → ℕ
  bound b = 227633266688 + b * 59652

  value_within : (b r c : ℕ) → r < 8 → c < 8 → squares n x r c ≤ b * b → IsWithin (bound b) (value r c)
  unfolding bound value
  value_within b r c hr hc h =
      let p = mul-le-mul_left n (by_cauchy n x r c small b h hr hc) in
      let w = weights_by_energy n x r c large hr hc in
      let i = near r c hr hc in
      divided n (227633266688 + b * 59652) (row_sum c (column_sum x r)) (omega (arith, large)) (omega (arith, ints, p, w.0, i.0), omega (arith, ints, p, w.1, i.1))

  sum_within : (b : ℕ) → ((r c : ℕ) → squares n x r c ≤ b * b) → IsAtMost (pos (64 * (bound b * bound b))) (sum_below 8 (λ r. sum_below 8 (λ c. value r c *ℤ value r c)))
  sum_within b h =
      rw (constant (bound b * bound b)) at
      (sum_at_most 8 (λ r. sum_below 8 (λ c. value r c *ℤ value r c)) (λ r. sum_below 8 (λ c. pos (bound b * bound b)))
      (λ r hr. sum_at_most 8 (λ c. value r c *ℤ value r c) (λ c. pos (bound b * bound b))
      (λ c hc. let w = value_within b r c hr hc (h r c) in product_within (bound b) (bound b) (value r c) (value r c) w w)))

  -- the square root of the energy is less than 3400
  from_root : (r s : ℕ) → r * r ≤ s → s < (r + 1) * (r + 1) → 536346624 * (536346624 * s) ≤ 64 * (bound (r + 1) * bound (r + 1)) → s ≤ 3400 * 3400
  unfolding bound
  from_root r s low high kept =
      let m = mul-le-mul_left (536346624 * 536346624) low in
      let root_kept : 536346624 * r ≤ 8 * (227633266688 + (r + 1) * 59652) = from_squares (536346624 * r) (8 * (227633266688 + (r + 1) * 59652)) (omega (arith, m, kept)) in
      let few : r + 1 ≤ 3399 = omega (arith, root_kept) in
      let square_few = mul-le-mul few few in
      omega (arith, high, square_few)

  pub moderate_energy : RootsAgree → energy x ≤ℤ pos (3400 * 3400)
  unfolding value
  moderate_energy roots =
      let s = squares n x 0 0 in
      let r = root s in
      let is_root = roots s in
      let same : (a b : ℕ) → squares n x a b ≤ (r + 1) * (r + 1) = λ a b. omega (arith, is_root.1, same_squares a b) in
      let above = sum_within (r + 1) same in
      let below = both_kept x in
      let kept : 536346624 * (536346624 * all) ≤ 64 * (bound (r + 1) * bound (r + 1)) = both all (64 * (bound (r + 1) * bound (r + 1))) _ (rw (all_is) at below) above.1 in
      let few_kept : 536346624 * (536346624 * s) ≤ 64 * (bound (r + 1) * bound (r + 1)) = omega (arith, kept, few) in
      let small_root = from_root r s is_root.0 is_root.1 few_kept in
      rw (energy_is n x 0 0) (omega (arith, ints, small_root))
