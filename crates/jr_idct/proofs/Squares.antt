-- Cauchy and Schwarz, of natural numbers.
use Rattle.std.proofs.Common.{arith, refl, ◌≡◌, ℕ, zero, suc, ◌+◌, ◌-◌, ◌*◌, ◌≤◌, pos, ◌+ℤ◌, ap, ap₂, inl, inr, mul-le-mul}
use Rattle.std.proofs.lemmas.Bool.{cases_lt}
use Rattle.jr_idct.specs.Matrix.{sum_below}
use Rattle.jr_idct.proofs.Cosines.{from_squares}

-- f 0 + f 1 + .. + f (k - 1)
unfoldable pub adds : ℕ → (ℕ → ℕ) → ℕ
adds zero f = 0
adds (suc k) f = adds k f + f k

pub sum-pos : (k : ℕ) (f : ℕ → ℕ) → sum_below k (λ j. pos (f j)) ≡ pos (adds k f)
unfolding sum_below adds
sum-pos zero f = refl
sum-pos (suc k) f = ap (λ z. z +ℤ pos (f k)) (sum-pos k f)

pub same_adds : (k : ℕ) (f g : ℕ → ℕ) → ((j : ℕ) → f j ≡ g j) → adds k f ≡ adds k g
unfolding adds
same_adds zero f g h = refl
same_adds (suc k) f g h = ap₂ ◌+◌ (same_adds k f g h) (h k)

pub adds_first : (k : ℕ) (f : ℕ → ℕ) → adds (suc k) f ≡ f 0 + adds k (λ j. f (suc j))
unfolding adds
adds_first zero f = omega arith
adds_first (suc k) f = let e = adds_first k f in omega (arith, e)

pub adds-times : (n k : ℕ) (f : ℕ → ℕ) → adds k (λ j. n * f j) ≡ n * adds k f
unfolding adds
adds-times n zero f = omega arith
adds-times n (suc k) f = let e = adds-times n k f in omega (arith, e)

from_order : (p d : ℕ) → 2 * (p * (p + d)) ≤ p * p + (p + d) * (p + d)
from_order p d = omega arith

pub two_products : (p q : ℕ) → 2 * (p * q) ≤ p * p + q * q
two_products p q = elim (cases_lt p q) [
  | inl l ↦ let e : p + (q - p) ≡ q = omega (arith, l) in rw e at (from_order p (q - p))
  | inr l ↦ let e : q + (p - q) ≡ p = omega (arith, l) in let s = rw e at (from_order q (p - q)) in omega (arith, s)
]

step : (S F G s f g : ℕ) → S * S ≤ F * G → s * s ≤ f * g → (S + s) * (S + s) ≤ (F + f) * (G + g)
step S F G s f g p q =
    let m = mul-le-mul p q in
    let t = two_products (F * g) (G * f) in
    let c : 2 * (S * s) ≤ F * g + G * f = from_squares (2 * (S * s)) (F * g + G * f) (omega (arith, m, t)) in
    omega (arith, p, q, c)

pub cauchy : (k : ℕ) (s f g : ℕ → ℕ) → ((j : ℕ) → s j * s j ≤ f j * g j) → adds k s * adds k s ≤ adds k f * adds k g
unfolding adds
cauchy zero s f g h = omega arith
cauchy (suc k) s f g h = step (adds k s) (adds k f) (adds k g) (s k) (f k) (g k) (cauchy k s f g h) (h k)
