-- Laws of sums.
use Rattle.std.proofs.Common.{arith, refl, ◌≡◌, ℕ, zero, suc, ◌<◌, ℤ, pos, neg_ℤ, ◌+ℤ◌, ◌-ℤ◌, ◌*ℤ◌, ◌≤ℤ◌, ap, ap₂, sym, ◌∙◌}
use Rattle.std.proofs.lemmas.Int.{ints}
use Rattle.jr_idct.specs.Matrix.{weight, row_sum, sum_below}
use Rattle.jr_idct.proofs.Integers.{times-sum}

-- z lies from -b to b
abbrev pub IsAtMost : ℤ → ℤ → Type 0
IsAtMost b z = (neg_ℤ b ≤ℤ z) × (z ≤ℤ b)

pub same_sums : (k : ℕ) (f g : ℕ → ℤ) → ((j : ℕ) → j < k → f j ≡ g j) → sum_below k f ≡ sum_below k g
unfolding sum_below
same_sums zero f g h = refl
same_sums (suc k) f g h = ap₂ ◌+ℤ◌ (same_sums k f g (λ j l. h j (omega (arith, l)))) (h k (omega arith))

pub sum-times : (a : ℤ) (k : ℕ) (f : ℕ → ℤ) → sum_below k (λ j. a *ℤ f j) ≡ a *ℤ sum_below k f
unfolding sum_below
sum-times a zero f = omega (arith, ints)
sum-times a (suc k) f = ap (λ z. z +ℤ a *ℤ f k) (sum-times a k f) ∙ sym (times-sum a (sum_below k f) (f k))

pub sum-minus : (k : ℕ) (f g : ℕ → ℤ) → sum_below k (λ j. f j -ℤ g j) ≡ sum_below k f -ℤ sum_below k g
unfolding sum_below
sum-minus zero f g = refl
sum-minus (suc k) f g = let e = sum-minus k f g in omega (arith, ints, e)

pub sum_at_most : (k : ℕ) (f b : ℕ → ℤ) → ((j : ℕ) → j < k → IsAtMost (b j) (f j)) → IsAtMost (sum_below k b) (sum_below k f)
unfolding sum_below
sum_at_most zero f b h = (omega (arith, ints), omega (arith, ints))
sum_at_most (suc k) f b h =
    let i = sum_at_most k f b (λ j l. h j (omega (arith, l))) in
    let e = h k (omega arith) in
    (omega (arith, ints, i.0, e.0), omega (arith, ints, i.1, e.1))

from_zero : (a b c d e f g h : ℤ) → pos 0 +ℤ a +ℤ b +ℤ c +ℤ d +ℤ e +ℤ f +ℤ g +ℤ h ≡ a +ℤ b +ℤ c +ℤ d +ℤ e +ℤ f +ℤ g +ℤ h
from_zero a b c d e f g h = omega (arith, ints)

pub row_is_sum : (i : ℕ) (v : ℕ → ℤ) → sum_below 8 (λ k. weight i k *ℤ v k) ≡ row_sum i v
unfolding sum_below
row_is_sum i v = from_zero (weight i 0 *ℤ v 0) (weight i 1 *ℤ v 1) (weight i 2 *ℤ v 2) (weight i 3 *ℤ v 3) (weight i 4 *ℤ v 4) (weight i 5 *ℤ v 5) (weight i 6 *ℤ v 6) (weight i 7 *ℤ v 7)
