-- The error of the weights as a sum over the coefficients.
use Rattle.std.proofs.Common.{arith, refl, ◌≡◌, ℕ, zero, suc, ◌+◌, ◌*◌, ◌<◌, ℤ, pos, negsuc, ◌+ℤ◌, ◌-ℤ◌, ◌*ℤ◌, unsigned_abs, ap, sym, ◌∙◌}
use Rattle.std.proofs.lemmas.Int.{ints}
use lib.IntN.{*ℤ_comm}
use Rattle.jr_idct.specs.Matrix.{weight, row_sum, sum_below}
use Rattle.jr_idct.specs.Ideal.{angle, cosine, twice_product, ideal}
use Rattle.jr_idct.proofs.Integers.{times-neg, times-minus, times_assoc, times_left_comm, times_le}
use Rattle.jr_idct.proofs.Passes.{below_eight}
use Rattle.jr_idct.proofs.Roundings.{column_sum}
use Rattle.jr_idct.proofs.Sums.{same_sums, sum-times, sum-minus, row_is_sum, IsAtMost}

-- the size of number k, except of the first, the DC coefficient
abbrev pub size_at : (ℕ → ℤ) → ℕ → ℕ
size_at x zero = 0
size_at x (suc k) = unsigned_abs (x (suc k))

-- n times the product of two weights, less 2 ^ 26 times that of the cosines
abbrev pub entry_error : ℕ → ℕ → ℕ → ℕ → ℕ → ℤ
entry_error n r c u v = pos n *ℤ (weight r v *ℤ weight c u) -ℤ pos 67108864 *ℤ twice_product n (angle r v) (angle c u)

first_weight : (r : ℕ) → r < 8 → weight r 0 ≡ pos 8192
first_weight = below_eight (λ r. weight r 0 ≡ pos 8192) refl refl refl refl refl refl refl refl

-- the DC coefficient has no error
pub first_entry : (n r c : ℕ) → r < 8 → c < 8 → entry_error n r c 0 0 ≡ pos 0
unfolding cosine
first_entry n r c hr hc = rw (first_weight r hr, first_weight c hc) (none n)
  where
    none : (n : ℕ) → pos n *ℤ (pos 8192 *ℤ pos 8192) -ℤ pos 67108864 *ℤ (pos 0 +ℤ pos n) ≡ pos 0
    none n = omega (arith, ints)

-- a number times one that is at most b
pub times_at_most : (b : ℕ) (x d : ℤ) → IsAtMost (pos b) d → IsAtMost (pos b *ℤ pos (unsigned_abs x)) (x *ℤ d)
times_at_most b (pos m) d e = let l = times_le m _ _ e.0 in let h = times_le m _ _ e.1 in let o = times-neg (pos m) (pos b) in (omega (arith, ints, l, o), omega (arith, ints, h))
times_at_most b (negsuc m) d e = let l = times_le (suc m) _ _ e.0 in let h = times_le (suc m) _ _ e.1 in let o = times-neg (pos (suc m)) (pos b) in (omega (arith, ints, h), omega (arith, ints, l, o))

pub sized : (b : ℕ) (x : ℕ → ℤ) (k : ℕ) (d : ℤ) → (k ≡ 0 → d ≡ pos 0) → IsAtMost (pos b) d → IsAtMost (pos b *ℤ pos (size_at x k)) (x k *ℤ d)
sized b x zero d none e = rw (none refl) (nothing (x zero))
  where
    nothing : (z : ℤ) → IsAtMost (pos b *ℤ pos 0) (z *ℤ pos 0)
    nothing z = (omega (arith, ints), omega (arith, ints))
sized b x (suc k) d none e = times_at_most b (x (suc k)) d e

-- the error of index 0
pub entry_is_zero : (n r c u v : ℕ) → r < 8 → c < 8 → 8 * v + u ≡ 0 → entry_error n r c u v ≡ pos 0
entry_is_zero n r c u v hr hc e =
    let v0 : v ≡ 0 = omega (arith, e) in
    let u0 : u ≡ 0 = omega (arith, e) in
    rw (v0, u0) (first_entry n r c hr hc)

module _ (n : ℕ) (x : ℕ → ℤ) (r c : ℕ) where
  part : ℕ → ℕ → ℤ
  part u v = x (8 * v + u) *ℤ twice_product n (angle r v) (angle c u)

  unfoldable pub error : ℕ → ℕ → ℤ
  error u v = x (8 * v + u) *ℤ entry_error n r c u v

  one : (n a b x f : ℤ) → x *ℤ (n *ℤ (a *ℤ b) -ℤ pos 67108864 *ℤ f) ≡ n *ℤ b *ℤ (a *ℤ x) -ℤ pos 67108864 *ℤ (x *ℤ f)
  one n a b x f =
      times-minus x (n *ℤ (a *ℤ b)) (pos 67108864 *ℤ f)
      ∙ ap (λ z. z -ℤ x *ℤ (pos 67108864 *ℤ f)) (turned n a b x)
      ∙ ap (λ z. n *ℤ b *ℤ (a *ℤ x) -ℤ z) (times_left_comm x (pos 67108864) f)
    where
      turned : (n a b x : ℤ) → x *ℤ (n *ℤ (a *ℤ b)) ≡ n *ℤ b *ℤ (a *ℤ x)
      turned n a b x =
          times_left_comm x n (a *ℤ b)
          ∙ ap (λ z. n *ℤ z) (*ℤ_comm x (a *ℤ b) ∙ ap (λ z. z *ℤ x) (*ℤ_comm a b) ∙ times_assoc b a x)
          ∙ sym (times_assoc n b (a *ℤ x))

  column_error : (u : ℕ) → sum_below 8 (error u) ≡ pos n *ℤ weight c u *ℤ column_sum x r u -ℤ pos 67108864 *ℤ sum_below 8 (part u)
  unfolding error part
  column_error u =
      let a : ℤ = pos n *ℤ weight c u in
      same_sums 8 (error u) (λ v. a *ℤ (weight r v *ℤ x (8 * v + u)) -ℤ pos 67108864 *ℤ part u v) (λ v _. one (pos n) (weight r v) (weight c u) (x (8 * v + u)) (twice_product n (angle r v) (angle c u)))
      ∙ sum-minus 8 (λ v. a *ℤ (weight r v *ℤ x (8 * v + u))) (λ v. pos 67108864 *ℤ part u v)
      ∙ ap (λ z. z -ℤ sum_below 8 (λ v. pos 67108864 *ℤ part u v)) (sum-times a 8 (λ v. weight r v *ℤ x (8 * v + u)))
      ∙ ap (λ z. a *ℤ sum_below 8 (λ v. weight r v *ℤ x (8 * v + u)) -ℤ z) (sum-times (pos 67108864) 8 (part u))
      ∙ ap (λ z. a *ℤ z -ℤ pos 67108864 *ℤ sum_below 8 (part u)) (row_is_sum r (λ v. x (8 * v + u)))

  associated : (n a s t : ℤ) → n *ℤ a *ℤ s -ℤ t ≡ n *ℤ (a *ℤ s) -ℤ t
  associated n a s t = ap (λ z. z -ℤ t) (times_assoc n a s)

  pub whole_error : sum_below 8 (λ u. sum_below 8 (error u)) ≡ pos n *ℤ row_sum c (column_sum x r) -ℤ pos 67108864 *ℤ ideal n x r c
  unfolding ideal part
  whole_error =
      same_sums 8 (λ u. sum_below 8 (error u)) (λ u. pos n *ℤ (weight c u *ℤ column_sum x r u) -ℤ pos 67108864 *ℤ sum_below 8 (part u))
      (λ u _. column_error u ∙ associated (pos n) (weight c u) (column_sum x r u) (pos 67108864 *ℤ sum_below 8 (part u)))
      ∙ sum-minus 8 (λ u. pos n *ℤ (weight c u *ℤ column_sum x r u)) (λ u. pos 67108864 *ℤ sum_below 8 (part u))
      ∙ ap (λ z. z -ℤ sum_below 8 (λ u. pos 67108864 *ℤ sum_below 8 (part u))) (sum-times (pos n) 8 (λ u. weight c u *ℤ column_sum x r u))
      ∙ ap (λ z. pos n *ℤ sum_below 8 (λ u. weight c u *ℤ column_sum x r u) -ℤ z) (sum-times (pos 67108864) 8 (λ u. sum_below 8 (part u)))
      ∙ ap (λ z. pos n *ℤ z -ℤ pos 67108864 *ℤ sum_below 8 (λ u. sum_below 8 (part u))) (row_is_sum c (column_sum x r))
