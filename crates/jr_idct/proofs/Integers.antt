-- Products of integers.
use Rattle.std.proofs.Common.{arith, ◌≡◌, ℕ, ◌+◌, ◌*◌, ◌≤◌, ℤ, pos, neg_ℤ, ◌+ℤ◌, ◌-ℤ◌, ◌*ℤ◌, ◌≤ℤ◌, ap, sym, ◌∙◌, mul-le-mul_left}
use Rattle.std.proofs.lemmas.Int.{ints}
use borrow.Author.Differences.{up, down, product_is}
use lib.IntN.{*ℤ_comm}

pub times-sum : (a b c : ℤ) → a *ℤ (b +ℤ c) ≡ a *ℤ b +ℤ a *ℤ c
times-sum a b c =
    let s : up (b +ℤ c) + down b + down c ≡ down (b +ℤ c) + up b + up c = omega (arith, ints) in
    let p = ap (λ k. up a * k) s in
    let q = ap (λ k. down a * k) s in
    omega (arith, ints, p, q)

pub times-neg : (a b : ℤ) → a *ℤ neg_ℤ b ≡ neg_ℤ (a *ℤ b)
times-neg a b =
    let s : up (neg_ℤ b) ≡ down b = omega (arith, ints) in
    let t : down (neg_ℤ b) ≡ up b = omega (arith, ints) in
    let p = ap (λ k. up a * k) s in
    let q = ap (λ k. down a * k) s in
    let u = ap (λ k. up a * k) t in
    let v = ap (λ k. down a * k) t in
    omega (arith, ints, p, q, u, v)

pub times-minus : (a b c : ℤ) → a *ℤ (b -ℤ c) ≡ a *ℤ b -ℤ a *ℤ c
times-minus a b c = times-sum a b (neg_ℤ c) ∙ ap (λ z. a *ℤ b +ℤ z) (times-neg a c)

pub times_assoc : (a b c : ℤ) → a *ℤ b *ℤ c ≡ a *ℤ (b *ℤ c)
times_assoc a b c =
    let l = product_is a b in
    let r = product_is b c in
    let p = ap (λ k. k * up c) l.0 in
    let q = ap (λ k. k * down c) l.0 in
    let s = ap (λ k. k * up c) l.1 in
    let t = ap (λ k. k * down c) l.1 in
    let p' = ap (λ k. up a * k) r.0 in
    let q' = ap (λ k. down a * k) r.0 in
    let s' = ap (λ k. up a * k) r.1 in
    let t' = ap (λ k. down a * k) r.1 in
    omega (arith, ints, p, q, s, t, p', q', s', t')

pub times_left_comm : (a b c : ℤ) → a *ℤ (b *ℤ c) ≡ b *ℤ (a *ℤ c)
times_left_comm a b c = sym (times_assoc a b c) ∙ ap (λ z. z *ℤ c) (*ℤ_comm a b) ∙ times_assoc b a c

pub times_le : (n : ℕ) (a b : ℤ) → a ≤ℤ b → (pos n *ℤ a) ≤ℤ (pos n *ℤ b)
times_le n a b h = let s : up a + down b ≤ up b + down a = omega (arith, ints, h) in let m = mul-le-mul_left n s in omega (arith, ints, m)
