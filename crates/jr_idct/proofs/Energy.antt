-- The error of the weights by the energy of the coefficients.
use Rattle.std.proofs.Common.{arith, ◌≡◌, ℕ, ◌+◌, ◌*◌, ◌/◌, ◌%◌, ◌^◌, ◌<◌, ◌≤◌, max, zero, suc, Bool, true, ◌&&◌, nat_le, inl, inr, ℤ, pos, negsuc, neg_ℤ, ◌+ℤ◌, ◌-ℤ◌, ◌*ℤ◌, ◌≤ℤ◌, unsigned_abs, ap, ◌∙◌, mul-le-mul, mul-le-mul_left}
use Rattle.std.proofs.lemmas.Int.{ints}
use Rattle.std.proofs.lemmas.Bool.{leb-true, and_parts, cases_eq}
use borrow.Author.Differences.{up, down}
use Rattle.jr_idct.specs.Matrix.{at, weight, row_sum, sum_below, IsWithin}
use Rattle.jr_idct.specs.Transform.{value_of}
use Rattle.jr_idct.specs.Ideal.{angle, cosine, ideal, energy, ValuesAreNear}
use Rattle.jr_idct.proofs.Cosines.{scale, lows, highs, cosine_near, IsNear, from_squares}
use Rattle.jr_idct.proofs.Errors.{entry_error, size_at, sized, entry_is_zero, error, whole_error}
use Rattle.jr_idct.proofs.Roundings.{column_sum, roundings, SecondIsNear}
use Rattle.jr_idct.proofs.Squares.{adds, adds_first, sum-pos, adds-times, cauchy}
use Rattle.jr_idct.proofs.Sums.{same_sums, sum_at_most, IsAtMost}

-- the first k numbers pass
abbrev pub pass_below : (ℕ → Bool) → ℕ → Bool
pass_below p zero = true
pass_below p (suc k) = p k && pass_below p k

pub pass_at : (p : ℕ → Bool) (n : ℕ) → pass_below p n ≡ true → (k : ℕ) → k < n → p k ≡ true
pass_at p zero e k h = absurd (omega (arith, h))
pass_at p (suc n) e k h =
    let both = and_parts (p n) (pass_below p n) e in
    elim (cases_eq k n) [ inl same ↦ ap p same ∙ both.0 | inr other ↦ pass_at p n both.1 k (omega (arith, h, other)) ]

-- the bounds of 10 ^ 8 times the product of two weights, less 2 ^ 26 times twice that of their cosines; the last number allows
-- for the decimal places that cosines lack if n is a million
abbrev most : ℕ → ℕ → ℕ → ℕ → ℤ
most r v c u = pos scale *ℤ (weight r v *ℤ weight c u) -ℤ pos 67108864 *ℤ (at lows ((angle r v + angle c u) % 32) +ℤ at lows ((angle r v + 31 * angle c u) % 32)) +ℤ pos 13421772800

abbrev least : ℕ → ℕ → ℕ → ℕ → ℤ
least r v c u = pos scale *ℤ (weight r v *ℤ weight c u) -ℤ pos 67108864 *ℤ (at highs ((angle r v + angle c u) % 32) +ℤ at highs ((angle r v + 31 * angle c u) % 32)) -ℤ pos 13421772800

-- how far it may be from 0
unfoldable pub spread : ℕ → ℕ → ℕ → ℕ → ℕ
spread r v c u = max (unsigned_abs (most r v c u)) (unsigned_abs (least r v c u)) / scale + 1

abbrev pub small : ℕ → Bool
small k = nat_le (adds 8 (λ u. adds 8 (λ v. spread (k / 8) v (k % 8) u * spread (k / 8) v (k % 8) u))) (59652 * 59652)

-- for each of the 64 values, their squares add up to at most that of 59652
abbrev pub AreSmall : Type 0
AreSmall = pass_below small 64 ≡ true

spreads : AreSmall → (r c : ℕ) → r < 8 → c < 8 → adds 8 (λ u. adds 8 (λ v. spread r v c u * spread r v c u)) ≤ 59652 * 59652
spreads all_small r c hr hc =
    let k : ℕ = 8 * r + c in
    let er : k / 8 ≡ r = omega (arith, hr, hc) in
    let ec : k % 8 ≡ c = omega (arith, hr, hc) in
    leb-true _ _ (rw (er, ec) at (pass_at small 64 all_small k (omega (arith, hr, hc))))

entry_from : (n g : ℕ) (w a b la lb ha hb : ℤ) → 10 ^ 6 ≤ n → IsNear n la ha a → IsNear n lb hb b
    → (pos scale *ℤ w -ℤ pos 67108864 *ℤ (la +ℤ lb) +ℤ pos 13421772800) ≤ℤ pos (scale * g)
    → neg_ℤ (pos (scale * g)) ≤ℤ (pos scale *ℤ w -ℤ pos 67108864 *ℤ (ha +ℤ hb) -ℤ pos 13421772800)
    → IsAtMost (pos (g * n)) (pos n *ℤ w -ℤ pos 67108864 *ℤ (a +ℤ b))
entry_from n g w a b la lb ha hb large p q low high =
    let l : scale * up w + 67108864 * down la + 67108864 * down lb + 13421772800 ≤ scale * down w + 67108864 * up la + 67108864 * up lb + scale * g = omega (arith, ints, low) in
    let h : scale * down w + 67108864 * up ha + 67108864 * up hb + 13421772800 ≤ scale * up w + 67108864 * down ha + 67108864 * down hb + scale * g = omega (arith, ints, high) in
    let l' = mul-le-mul_left n l in
    let h' = mul-le-mul_left n h in
    (omega (arith, ints, large, p, q, h'), omega (arith, ints, large, p, q, l'))

spread_above : (z y : ℤ) → z ≤ℤ pos (scale * (max (unsigned_abs z) (unsigned_abs y) / scale + 1))
spread_above z y = omega (arith, ints)

spread_below : (z y : ℤ) → neg_ℤ (pos (scale * (max (unsigned_abs z) (unsigned_abs y) / scale + 1))) ≤ℤ y
spread_below z y = omega (arith, ints)

entry : (n r c u v : ℕ) → 10 ^ 6 ≤ n → IsAtMost (pos (spread r v c u * n)) (entry_error n r c u v)
unfolding spread
entry n r c u v large =
    let i : ℕ = (angle r v + angle c u) % 32 in
    let j : ℕ = (angle r v + 31 * angle c u) % 32 in
    entry_from n (spread r v c u) (weight r v *ℤ weight c u) (cosine n (angle r v + angle c u)) (cosine n (angle r v + 31 * angle c u)) (at lows i) (at lows j) (at highs i) (at highs j) large
    (cosine_near n (angle r v + angle c u)) (cosine_near n (angle r v + 31 * angle c u)) (spread_above (most r v c u) (least r v c u)) (spread_below (most r v c u) (least r v c u))

pub square_is : (z : ℤ) → z *ℤ z ≡ pos (unsigned_abs z * unsigned_abs z)
square_is (pos m) = omega (arith, ints)
square_is (negsuc m) = omega (arith, ints)

-- the sum over all indices, by columns
by_columns : (f : ℕ → ℕ) → adds 8 (λ u. adds 8 (λ v. f (8 * v + u))) ≡ adds 64 f
unfolding adds
by_columns f = omega arith

one : (g n a : ℕ) → pos (g * n) *ℤ pos a ≡ pos (n * (a * g))
one g n a = ap pos (omega arith)

square : (a g : ℕ) → a * g * (a * g) ≤ a * a * (g * g)
square a g = omega arith

module _ (n : ℕ) (x : ℕ → ℤ) (r c : ℕ) where
  product : ℕ → ℕ → ℕ
  product u v = size_at x (8 * v + u) * spread r v c u

  pub squares : ℕ
  squares = adds 8 (λ u. adds 8 (λ v. size_at x (8 * v + u) * size_at x (8 * v + u)))

  pub energy_is : energy x ≡ pos squares
  unfolding energy squares
  energy_is =
      same_sums 63 _ (λ k. pos (size_at x (suc k) * size_at x (suc k))) (λ k _. square_is (x (suc k)))
      ∙ sum-pos 63 (λ k. size_at x (suc k) * size_at x (suc k))
      ∙ ap pos (let f = adds_first 63 (λ k. size_at x k * size_at x k) in let b = by_columns (λ k. size_at x k * size_at x k) in omega (arith, f, b))

  pub products : ℕ
  products = adds 8 (λ u. adds 8 (product u))

  pub by_cauchy : AreSmall → (b : ℕ) → squares ≤ b * b → r < 8 → c < 8 → products ≤ b * 59652
  unfolding squares products product
  by_cauchy all_small b few hr hc =
      let gs : ℕ = adds 8 (λ u. adds 8 (λ v. spread r v c u * spread r v c u)) in
      let whole : products * products ≤ squares * gs =
      cauchy 8 (λ u. adds 8 (product u)) (λ u. adds 8 (λ v. size_at x (8 * v + u) * size_at x (8 * v + u))) (λ u. adds 8 (λ v. spread r v c u * spread r v c u))
      (λ u. cauchy 8 (product u) (λ v. size_at x (8 * v + u) * size_at x (8 * v + u)) (λ v. spread r v c u * spread r v c u) (λ v. square (size_at x (8 * v + u)) (spread r v c u))) in
      from_squares products (b * 59652) (bounded products squares gs b whole few (spreads all_small r c hr hc))
    where
      bounded : (p s g b : ℕ) → p * p ≤ s * g → s ≤ b * b → g ≤ 59652 * 59652 → p * p ≤ b * 59652 * (b * 59652)
      bounded p s g b w f h = let m = mul-le-mul f h in omega (arith, w, m)

  column_bound : (u : ℕ) → sum_below 8 (λ v. pos (spread r v c u * n) *ℤ pos (size_at x (8 * v + u))) ≡ pos (n * adds 8 (product u))
  unfolding product
  column_bound u =
      same_sums 8 _ (λ v. pos (n * product u v)) (λ v _. one (spread r v c u) n (size_at x (8 * v + u)))
      ∙ sum-pos 8 (λ v. n * product u v)
      ∙ ap pos (adds-times n 8 (product u))

  whole_bound : sum_below 8 (λ u. sum_below 8 (λ v. pos (spread r v c u * n) *ℤ pos (size_at x (8 * v + u)))) ≡ pos (n * products)
  unfolding products
  whole_bound =
      same_sums 8 _ (λ u. pos (n * adds 8 (product u))) (λ u _. column_bound u)
      ∙ sum-pos 8 (λ u. n * adds 8 (product u))
      ∙ ap pos (adds-times n 8 (λ u. adds 8 (product u)))

  pub weights_by_energy : 10 ^ 6 ≤ n → r < 8 → c < 8 → IsAtMost (pos (n * products)) (pos n *ℤ row_sum c (column_sum x r) -ℤ pos 67108864 *ℤ ideal n x r c)
  unfolding error
  weights_by_energy large hr hc =
      rw (whole_bound, whole_error n x r c) at (sum_at_most 8 (λ u. sum_below 8 (error n x r c u)) (λ u. sum_below 8 (λ v. pos (spread r v c u * n) *ℤ pos (size_at x (8 * v + u))))
      (λ u _. sum_at_most 8 (error n x r c u) (λ v. pos (spread r v c u * n) *ℤ pos (size_at x (8 * v + u)))
      (λ v _. sized (spread r v c u * n) x (8 * v + u) (entry_error n r c u v) (entry_is_zero n r c u v hr hc) (entry n r c u v large))))

together : (n b p : ℕ) (y t i : ℤ) → p ≤ b * 59652 → IsWithin 331118592 (pos 536870912 *ℤ y -ℤ t) → IsAtMost (pos (n * p)) (pos n *ℤ t -ℤ pos 67108864 *ℤ i)
    → IsAtMost (pos (n * (22212 + 4 * b))) (pos (36000 * n) *ℤ y -ℤ pos 4500 *ℤ i)
together n b p y t i few e f =
    let m = mul-le-mul_left n few in
    let l : 536870912 * down y + up t ≤ 536870912 * up y + down t + 331118592 = omega (arith, ints, e.0) in
    let h : 536870912 * up y + down t ≤ 536870912 * down y + up t + 331118592 = omega (arith, ints, e.1) in
    let l' = mul-le-mul_left n l in
    let h' = mul-le-mul_left n h in
    (omega (arith, ints, m, l', f.0), omega (arith, ints, m, h', f.1))

pub values_are_near : AreSmall → SecondIsNear → ValuesAreNear
values_are_near all_small second n x b r c large hr hc few =
    let f : squares n x r c ≤ b * b = (let e = rw (energy_is n x r c) at few in omega (arith, ints, e)) in
    together n b (products n x r c) (value_of x r c) (row_sum c (column_sum x r)) (ideal n x r c) (by_cauchy n x r c all_small b f hr hc) (roundings second x r c hr hc) (weights_by_energy n x r c large hr hc)
