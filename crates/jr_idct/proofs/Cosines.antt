-- Bounds of the cosines, in hundred millionths.
use Rattle.std.proofs.Common.{arith, refl, ◌≡◌, ℕ, ◌+◌, ◌-◌, ◌*◌, ◌/◌, ◌%◌, ◌<◌, ◌≤◌, ℤ, pos, neg_ℤ, ◌+ℤ◌, ◌*ℤ◌, ◌≤ℤ◌, List, [], ◌∷◌, lit≤, inl, inr, mul-le-mul_right}
use Rattle.std.proofs.lemmas.Int.{ints}
use Rattle.std.proofs.lemmas.Bool.{cases_lt}
use Rattle.std.proofs.lemmas.Nat.{mul-lt}
use lib.Ieee.{root_below, size}
use lib.Ieee.Root.{whole_part}
use Rattle.jr_idct.specs.Matrix.{at}
use Rattle.jr_idct.specs.Ideal.{Real, root, cosine_of_half, sine_of_half, cosine_1, cosine_2, cosine_3, cosine_4, cosine_5, cosine_6, cosine_7, cosines, cosine, PlacesAgree, RootsAgree}
use Rattle.jr_idct.proofs.Integers.{times-neg}
use Rattle.jr_idct.proofs.Passes.{below_eight}

pub places_agree : PlacesAgree
unfolding cosine_of_half sine_of_half root_below size
places_agree = refl

pub roots_agree : RootsAgree
roots_agree n = whole_part n

abbrev pub scale : ℕ
scale = 100000000

-- x lies between low / scale and high / scale
pub record IsBetween (low high : ℕ) (x : Real) : Type 0 where
  pub below : (n : ℕ) → scale * x n ≤ high * n
  pub above : (n : ℕ) → low * n ≤ scale * x n + scale

pub from_squares : (a b : ℕ) → a * a ≤ b * b → a ≤ b
from_squares a b h = elim (cases_lt b a) [ inl l ↦ absurd (let m = mul-lt b b a a l l in omega (arith, h, m)) | inr g ↦ g ]

-- k is the whole part of the root of (n n + m) / 2, or of (n n - m - 1) / 2, m being that of n n x
half_below : (n m k h h' : ℕ) → k * k ≤ (n * n + m) / 2 → scale * m ≤ h * (n * n) → scale * (scale + h) ≤ 2 * (h' * h') → scale * k ≤ h' * n
half_below n m k h h' is_root below e = from_squares (scale * k) (h' * n) (let f = mul-le-mul_right (n * n) e in omega (arith, is_root, below, f))

half_above : (n m k l l' : ℕ) → (n * n + m) / 2 < (k + 1) * (k + 1) → l * (n * n) ≤ scale * m + scale → 2 * (l' * l') ≤ scale * (scale + l) → l' * n ≤ scale * k + scale
half_above n m k l l' is_root above e =
    let s : l' * n ≤ scale * (k + 1) = from_squares (l' * n) (scale * (k + 1)) (let f = mul-le-mul_right (n * n) e in omega (arith, is_root, above, f)) in
    omega (arith, s)

rest_below : (n m k l h' : ℕ) → k * k ≤ (n * n - (m + 1)) / 2 → l * (n * n) ≤ scale * m + scale → scale * scale ≤ 2 * (h' * h') + scale * l → scale * k ≤ h' * n
rest_below n m k l h' is_root above e = from_squares (scale * k) (h' * n) (let f = mul-le-mul_right (n * n) e in omega (arith, is_root, above, f))

rest_above : (n m k h l' : ℕ) → (n * n - (m + 1)) / 2 < (k + 1) * (k + 1) → scale * m ≤ h * (n * n) → 2 * (l' * l') + scale * h ≤ scale * scale → l' * n ≤ scale * k + scale
rest_above n m k h l' is_root below e =
    let s : l' * n ≤ scale * (k + 1) = from_squares (l' * n) (scale * (k + 1)) (let f = mul-le-mul_right (n * n) e in omega (arith, is_root, below, f)) in
    omega (arith, s)

half_between : (l h l' h' : ℕ) (x : Real) → IsBetween l h x → 2 * (l' * l') ≤ scale * (scale + l) → scale * (scale + h) ≤ 2 * (h' * h') → IsBetween l' h' (cosine_of_half x)
unfolding cosine_of_half
half_between l h l' h' x b low high = record {
  below = λ n. let m = x (n * n) in half_below n m (root ((n * n + m) / 2)) h h' (whole_part ((n * n + m) / 2)).0 (b.below (n * n)) high;
  above = λ n. let m = x (n * n) in half_above n m (root ((n * n + m) / 2)) l l' (whole_part ((n * n + m) / 2)).1 (b.above (n * n)) low;
}

rest_between : (l h l' h' : ℕ) (x : Real) → IsBetween l h x → 2 * (l' * l') + scale * h ≤ scale * scale → scale * scale ≤ 2 * (h' * h') + scale * l → IsBetween l' h' (sine_of_half x)
unfolding sine_of_half
rest_between l h l' h' x b low high = record {
  below = λ n. let m = x (n * n) in rest_below n m (root ((n * n - (m + 1)) / 2)) l h' (whole_part ((n * n - (m + 1)) / 2)).0 (b.above (n * n)) high;
  above = λ n. let m = x (n * n) in rest_above n m (root ((n * n - (m + 1)) / 2)) h l' (whole_part ((n * n - (m + 1)) / 2)).1 (b.below (n * n)) low;
}

zero_between : IsBetween 0 0 (λ n. 0)
zero_between = record { below = λ n. omega arith; above = λ n. omega arith }

b4 : IsBetween 70710678 70710679 cosine_4
b4 = half_between 0 0 70710678 70710679 (λ n. 0) zero_between (lit≤ tt) (lit≤ tt)

b2 : IsBetween 92387953 92387954 cosine_2
b2 = half_between 70710678 70710679 92387953 92387954 cosine_4 b4 (lit≤ tt) (lit≤ tt)

b6 : IsBetween 38268342 38268344 cosine_6
b6 = rest_between 70710678 70710679 38268342 38268344 cosine_4 b4 (lit≤ tt) (lit≤ tt)

b1 : IsBetween 98078527 98078529 cosine_1
b1 = half_between 92387953 92387954 98078527 98078529 cosine_2 b2 (lit≤ tt) (lit≤ tt)

b7 : IsBetween 19509031 19509033 cosine_7
b7 = rest_between 92387953 92387954 19509031 19509033 cosine_2 b2 (lit≤ tt) (lit≤ tt)

b3 : IsBetween 83146960 83146962 cosine_3
b3 = half_between 38268342 38268344 83146960 83146962 cosine_6 b6 (lit≤ tt) (lit≤ tt)

b5 : IsBetween 55557022 55557024 cosine_5
b5 = rest_between 38268342 38268344 55557022 55557024 cosine_6 b6 (lit≤ tt) (lit≤ tt)

-- the bounds of the 32 cosines, with their signs
abbrev minus : ℕ → ℤ
minus n = neg_ℤ (pos n)

abbrev pub lows : List ℤ
lows =
    pos 100000000 ∷ pos 98078527 ∷ pos 92387953 ∷ pos 83146960 ∷ pos 70710678 ∷ pos 55557022 ∷ pos 38268342 ∷ pos 19509031
    ∷ pos 0 ∷ minus 19509033 ∷ minus 38268344 ∷ minus 55557024 ∷ minus 70710679 ∷ minus 83146962 ∷ minus 92387954 ∷ minus 98078529
    ∷ minus 100000000 ∷ minus 98078529 ∷ minus 92387954 ∷ minus 83146962 ∷ minus 70710679 ∷ minus 55557024 ∷ minus 38268344 ∷ minus 19509033
    ∷ pos 0 ∷ pos 19509031 ∷ pos 38268342 ∷ pos 55557022 ∷ pos 70710678 ∷ pos 83146960 ∷ pos 92387953 ∷ pos 98078527 ∷ []

abbrev pub highs : List ℤ
highs =
    pos 100000000 ∷ pos 98078529 ∷ pos 92387954 ∷ pos 83146962 ∷ pos 70710679 ∷ pos 55557024 ∷ pos 38268344 ∷ pos 19509033
    ∷ pos 0 ∷ minus 19509031 ∷ minus 38268342 ∷ minus 55557022 ∷ minus 70710678 ∷ minus 83146960 ∷ minus 92387953 ∷ minus 98078527
    ∷ minus 100000000 ∷ minus 98078527 ∷ minus 92387953 ∷ minus 83146960 ∷ minus 70710678 ∷ minus 55557022 ∷ minus 38268342 ∷ minus 19509031
    ∷ pos 0 ∷ pos 19509033 ∷ pos 38268344 ∷ pos 55557024 ∷ pos 70710679 ∷ pos 83146962 ∷ pos 92387954 ∷ pos 98078529 ∷ []

-- a number z with scale z between l n and h n, but for scale
abbrev pub IsNear : ℕ → ℤ → ℤ → ℤ → Type 0
IsNear n l h z = ((pos n *ℤ l) ≤ℤ (pos scale *ℤ z +ℤ pos scale)) × ((pos scale *ℤ z) ≤ℤ (pos n *ℤ h +ℤ pos scale))

near : (n l h : ℕ) (x : Real) → IsBetween l h x → IsNear n (pos l) (pos h) (pos (x n))
near n l h x b = let p = b.below n in let q = b.above n in (omega (arith, ints, q), omega (arith, ints, p))

opposite : (n l h : ℕ) (x : Real) → IsBetween l h x → IsNear n (minus h) (minus l) (minus (x n))
opposite n l h x b = let p = b.below n in let q = b.above n in let f = times-neg (pos n) (pos h) in let g = times-neg (pos n) (pos l) in (omega (arith, ints, p, f), omega (arith, ints, q, g))

one_between : IsBetween 100000000 100000000 (λ n. n)
one_between = record { below = λ n. omega arith; above = λ n. omega arith }

below_32 : (P : ℕ → Type 0) → P 0 → P 1 → P 2 → P 3 → P 4 → P 5 → P 6 → P 7 → P 8 → P 9 → P 10 → P 11 → P 12 → P 13 → P 14 → P 15 → P 16 → P 17 → P 18 → P 19 → P 20 → P 21 → P 22 → P 23 → P 24 → P 25 → P 26 → P 27 → P 28 → P 29 → P 30 → P 31 → (k : ℕ) → k < 32 → P k
below_32 P p0 p1 p2 p3 p4 p5 p6 p7 p8 p9 p10 p11 p12 p13 p14 p15 p16 p17 p18 p19 p20 p21 p22 p23 p24 p25 p26 p27 p28 p29 p30 p31 k h =
    elim (cases_lt k 8) [
      | inl a ↦ below_eight P p0 p1 p2 p3 p4 p5 p6 p7 k a
      | inr a ↦ elim (cases_lt k 16) [
        | inl b ↦ from 8 (below_eight (λ j. P (8 + j)) p8 p9 p10 p11 p12 p13 p14 p15 (k - 8) (omega (arith, a, b))) (omega (arith, a))
        | inr b ↦ elim (cases_lt k 24) [
          | inl d ↦ from 16 (below_eight (λ j. P (16 + j)) p16 p17 p18 p19 p20 p21 p22 p23 (k - 16) (omega (arith, b, d))) (omega (arith, b))
          | inr d ↦ from 24 (below_eight (λ j. P (24 + j)) p24 p25 p26 p27 p28 p29 p30 p31 (k - 24) (omega (arith, h, d))) (omega (arith, d))
        ]
      ]
    ]
  where
    from : (a : ℕ) → P (a + (k - a)) → a + (k - a) ≡ k → P k
    from a p e = rw e at p

cosines_near : (n k : ℕ) → k < 32 → IsNear n (at lows k) (at highs k) (at (cosines n) k)
cosines_near n = below_32 (λ k. IsNear n (at lows k) (at highs k) (at (cosines n) k))
    (near n 100000000 100000000 (λ n. n) one_between) (near n 98078527 98078529 cosine_1 b1) (near n 92387953 92387954 cosine_2 b2) (near n 83146960 83146962 cosine_3 b3)
    (near n 70710678 70710679 cosine_4 b4) (near n 55557022 55557024 cosine_5 b5) (near n 38268342 38268344 cosine_6 b6) (near n 19509031 19509033 cosine_7 b7)
    (near n 0 0 (λ n. 0) zero_between) (opposite n 19509031 19509033 cosine_7 b7) (opposite n 38268342 38268344 cosine_6 b6) (opposite n 55557022 55557024 cosine_5 b5)
    (opposite n 70710678 70710679 cosine_4 b4) (opposite n 83146960 83146962 cosine_3 b3) (opposite n 92387953 92387954 cosine_2 b2) (opposite n 98078527 98078529 cosine_1 b1)
    (opposite n 100000000 100000000 (λ n. n) one_between) (opposite n 98078527 98078529 cosine_1 b1) (opposite n 92387953 92387954 cosine_2 b2) (opposite n 83146960 83146962 cosine_3 b3)
    (opposite n 70710678 70710679 cosine_4 b4) (opposite n 55557022 55557024 cosine_5 b5) (opposite n 38268342 38268344 cosine_6 b6) (opposite n 19509031 19509033 cosine_7 b7)
    (near n 0 0 (λ n. 0) zero_between) (near n 19509031 19509033 cosine_7 b7) (near n 38268342 38268344 cosine_6 b6) (near n 55557022 55557024 cosine_5 b5)
    (near n 70710678 70710679 cosine_4 b4) (near n 83146960 83146962 cosine_3 b3) (near n 92387953 92387954 cosine_2 b2) (near n 98078527 98078529 cosine_1 b1)

pub cosine_near : (n m : ℕ) → IsNear n (at lows (m % 32)) (at highs (m % 32)) (cosine n m)
unfolding cosine
cosine_near n m = cosines_near n (m % 32) (omega arith)
