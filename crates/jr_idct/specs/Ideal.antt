-- The ideal inverse transform of T.81, A.3.3, whose cosines are real numbers, and how near to it the samples are.
-- The logic has no real numbers. Here a real number x from 0 to 1 is the function that takes n to n x, rounded down: at
-- n = 10 ^ 20 these are its first twenty decimal places. What is stated for every n from a million on is stated of x.
use Rattle.std.specs.Prelude.{◌≡◌, ◌≤ℤ◌, take, ℕ, zero, suc, ◌+◌, ◌-◌, ◌*◌, ◌/◌, ◌%◌, ◌^◌, ◌<◌, ◌≤◌, min, ℤ, pos, negsuc, neg_ℤ, ◌+ℤ◌, ◌-ℤ◌, ◌*ℤ◌, List, [], ◌∷◌}
use lib.Ieee.{root_below, size}
use Rattle.jr_idct.specs.Matrix.{at, floor_div, sum_below, IsWithin}
use Rattle.jr_idct.specs.Transform.{byte_of, value_of, sample_of}

abbrev pub Real : Type 0
Real = ℕ → ℕ

-- the square root of n, rounded down
abbrev pub root : ℕ → ℕ
root n = root_below (size n) n

-- root n is the number whose square is at most n, and the square of the next number is not
abbrev pub RootsAgree : Type 0
RootsAgree = (n : ℕ) → (root n * root n ≤ n) × (n < (root n + 1) * (root n + 1))

-- of x = cos a, with a from 0 to π / 2, the cosine of a / 2: the square root of (1 + x) / 2
unfoldable pub cosine_of_half : Real → Real
cosine_of_half x n = root ((n * n + x (n * n)) / 2)

-- of an irrational x = cos a, the sine of a / 2, which is the cosine of π / 2 - a / 2: the square root of (1 - x) / 2.
-- The 1 is there because n n x is no whole number: n n - n n x, rounded down, is n n less 1 more than n n x, rounded down
unfoldable pub sine_of_half : Real → Real
sine_of_half x n = root ((n * n - (x (n * n) + 1)) / 2)

-- `cosine_m` is cos (m π / 16): half-angle roots lead from cos (π / 2) = 0 to m = 4, from there to 2 and 6, and to the odd m
abbrev pub cosine_4 : Real
cosine_4 = cosine_of_half (λ n. 0)

abbrev pub cosine_2 : Real
cosine_2 = cosine_of_half cosine_4

abbrev pub cosine_6 : Real
cosine_6 = sine_of_half cosine_4

abbrev pub cosine_1 : Real
cosine_1 = cosine_of_half cosine_2

abbrev pub cosine_7 : Real
cosine_7 = sine_of_half cosine_2

abbrev pub cosine_3 : Real
cosine_3 = cosine_of_half cosine_6

abbrev pub cosine_5 : Real
cosine_5 = sine_of_half cosine_6

abbrev minus : ℕ → ℤ
minus n = neg_ℤ (pos n)

-- n cos (m π / 16) for m = 0 to 31, a whole turn, rounded towards 0
abbrev pub cosines : ℕ → List ℤ
cosines n =
    pos n ∷ pos (cosine_1 n) ∷ pos (cosine_2 n) ∷ pos (cosine_3 n) ∷ pos (cosine_4 n) ∷ pos (cosine_5 n) ∷ pos (cosine_6 n) ∷ pos (cosine_7 n)
    ∷ pos 0 ∷ minus (cosine_7 n) ∷ minus (cosine_6 n) ∷ minus (cosine_5 n) ∷ minus (cosine_4 n) ∷ minus (cosine_3 n) ∷ minus (cosine_2 n) ∷ minus (cosine_1 n)
    ∷ minus n ∷ minus (cosine_1 n) ∷ minus (cosine_2 n) ∷ minus (cosine_3 n) ∷ minus (cosine_4 n) ∷ minus (cosine_5 n) ∷ minus (cosine_6 n) ∷ minus (cosine_7 n)
    ∷ pos 0 ∷ pos (cosine_7 n) ∷ pos (cosine_6 n) ∷ pos (cosine_5 n) ∷ pos (cosine_4 n) ∷ pos (cosine_3 n) ∷ pos (cosine_2 n) ∷ pos (cosine_1 n) ∷ []

-- the first twenty decimal places of the first eight
abbrev pub PlacesAgree : Type 0
PlacesAgree =
    take 8 (cosines (10 ^ 20))
    ≡ pos 100000000000000000000 ∷ pos 98078528040323044912 ∷ pos 92387953251128675612 ∷ pos 83146961230254523707
    ∷ pos 70710678118654752440 ∷ pos 55557023301960222474 ∷ pos 38268343236508977172 ∷ pos 19509032201612826784 ∷ []

-- n cos (m π / 16) for any m
unfoldable pub cosine : ℕ → ℕ → ℤ
cosine n m = at (cosines n) (m % 32)

-- C_u cos ((2 i + 1) u π / 16) is the cosine of this many sixteenths of π, since C_0 is cos (π / 4) and the others are 1
abbrev pub angle : ℕ → ℕ → ℕ
angle i zero = 4
angle i (suc u) = (2 * i + 1) * suc u

-- 2 n cos a cos b = n cos (a + b) + n cos (a - b), in sixteenths of π, of which a turn less b has 31 b
abbrev pub twice_product : ℕ → ℕ → ℕ → ℤ
twice_product n a b = cosine n (a + b) +ℤ cosine n (a + 31 * b)

-- 8 n times the ideal value s_rc of the coefficients S_vu = x (8 v + u), dequantised: T.81 gives
-- s_rc = 1 / 4 times the sum over u and v of C_u C_v S_vu cos ((2 c + 1) u π / 16) cos ((2 r + 1) v π / 16)
unfoldable pub ideal : ℕ → (ℕ → ℤ) → ℕ → ℕ → ℤ
ideal n x r c = sum_below 8 (λ u. sum_below 8 (λ v. x (8 * v + u) *ℤ twice_product n (angle r v) (angle c u)))

-- the sum of the squares of the AC coefficients, which are numbers 1 to 63
unfoldable pub energy : (ℕ → ℤ) → ℤ
energy x = sum_below 63 (λ k. x (suc k) *ℤ x (suc k))

-- If the energy is at most the square of b, a value is within 0.617 + b / 9000 of the ideal one; here times 36000 n.
abbrev pub ValuesAreNear : Type 0
ValuesAreNear = (n : ℕ) (x : ℕ → ℤ) (b r c : ℕ) → 10 ^ 6 ≤ n → r < 8 → c < 8 → energy x ≤ℤ pos (b * b)
    → IsWithin (n * (22212 + 4 * b)) (pos (36000 * n) *ℤ value_of x r c -ℤ pos 4500 *ℤ ideal n x r c)

-- the nearest number from 0 to m
abbrev pub nearest : ℕ → ℤ → ℕ
nearest m (pos k) = min k m
nearest m (negsuc k) = 0

-- 8 n times the ideal sample: after the level shift (A.3.1), clamped to 0 to 255
abbrev pub ideal_sample : ℕ → (ℕ → ℤ) → ℕ → ℕ → ℕ
ideal_sample n x r c = nearest (8 * n * 255) (ideal n x r c +ℤ pos (8 * n * 128))

-- A sample is as near to the ideal one.
abbrev pub SamplesAreNear : Type 0
SamplesAreNear = (n : ℕ) (x : ℕ → ℤ) (b r c : ℕ) → 10 ^ 6 ≤ n → r < 8 → c < 8 → energy x ≤ℤ pos (b * b)
    → IsWithin (n * (22212 + 4 * b)) (pos (36000 * n * sample_of x r c) -ℤ pos (4500 * ideal_sample n x r c))

-- s is the ideal value in row r and column c rounded down or up, then shifted and clamped
abbrev pub IsFaithful : (s : ℕ) → (ℕ → ℤ) → (r c : ℕ) → Type 0
IsFaithful s x r c = (n : ℕ) → 10 ^ 6 ≤ n
    → (byte_of (floor_div (ideal n x r c) (8 * n) +ℤ pos 128) ≤ s) × (s ≤ byte_of (floor_div (ideal n x r c) (8 * n) +ℤ pos 129))

-- If the energy is at most the square of 3400, each sample is the ideal one rounded down or up.
abbrev pub SamplesAreFaithful : Type 0
SamplesAreFaithful = (x : ℕ → ℤ) (r c : ℕ) → r < 8 → c < 8 → energy x ≤ℤ pos (3400 * 3400) → IsFaithful (sample_of x r c) x r c

-- p / d rounded to the nearest number, halves up
abbrev pub rounded : ℤ → ℕ → ℤ
rounded p d = floor_div (p +ℤ pos (d / 2)) d

-- If it is at most the square of 7900, a sample is at most 1 from the ideal one rounded to the nearest, then shifted and clamped.
abbrev pub SamplesAreRounded : Type 0
SamplesAreRounded = (n : ℕ) (x : ℕ → ℤ) (r c : ℕ) → 10 ^ 6 ≤ n → r < 8 → c < 8 → energy x ≤ℤ pos (7900 * 7900)
    → (sample_of x r c ≤ byte_of (rounded (ideal n x r c) (8 * n) +ℤ pos 128) + 1)
    × (byte_of (rounded (ideal n x r c) (8 * n) +ℤ pos 128) ≤ sample_of x r c + 1)
