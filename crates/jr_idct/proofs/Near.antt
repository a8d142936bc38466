-- Samples, clamped, rounded down or up, or to the nearest.
use Rattle.std.proofs.Common.{arith, ◌≡◌, ℕ, ◌+◌, ◌*◌, ◌/◌, ◌^◌, ◌≤◌, ◌⊎◌, min, ℤ, pos, negsuc, ◌+ℤ◌, ◌-ℤ◌, ◌*ℤ◌, ◌≤ℤ◌, inl, inr, mul-le-mul_left}
use Rattle.std.proofs.lemmas.Int.{ints, by_lt_z}
use Rattle.std.proofs.lemmas.Bool.{cases_lt}
use Rattle.jr_idct.specs.Matrix.{floor_div}
use Rattle.jr_idct.specs.Transform.{byte_of, value_of}
use Rattle.jr_idct.specs.Ideal.{ideal, nearest, rounded, ValuesAreNear, SamplesAreNear, SamplesAreFaithful, SamplesAreRounded}
use Rattle.jr_idct.proofs.FloorLaws.{floor_below, floor_above}
use Rattle.jr_idct.proofs.Integers.{times-sum, times_le}
use Rattle.jr_idct.proofs.Sums.{IsAtMost}

-- n times a clamped number, by cases
clamped : (n a : ℕ) → (n * min a 255 ≤ n * a) × (n * min a 255 ≤ n * 255) × ((n * a ≤ n * min a 255) ⊎ (n * 255 ≤ n * min a 255))
clamped n a = elim (cases_lt a 255) [
  | inl l ↦ let e : min a 255 ≡ a = omega (arith, l) in rw e (omega arith, (let m = mul-le-mul_left n l in omega (arith, m)), inl (omega arith))
  | inr g ↦ let e : min a 255 ≡ 255 = omega (arith, g) in rw e (mul-le-mul_left n g, omega arith, inr (omega arith))
]

clamp_near : (n : ℕ) (b y p : ℤ) → IsAtMost b (pos (36000 * n) *ℤ y -ℤ pos 4500 *ℤ p) → IsAtMost b (pos (36000 * n * byte_of y) -ℤ pos (4500 * nearest (8 * n * 255) p))
clamp_near n b (pos a) (pos p) e = let k = clamped n a in elim k.2 [
  | inl l ↦ (omega (arith, ints, e, k.0, k.1, l), omega (arith, ints, e, k.0, k.1, l))
  | inr l ↦ (omega (arith, ints, e, k.0, k.1, l), omega (arith, ints, e, k.0, k.1, l))
]
clamp_near n b (pos a) (negsuc p) e = let k = clamped n a in elim k.2 [
  | inl l ↦ (omega (arith, ints, e, k.0, k.1, l), omega (arith, ints, e, k.0, k.1, l))
  | inr l ↦ (omega (arith, ints, e, k.0, k.1, l), omega (arith, ints, e, k.0, k.1, l))
]
clamp_near n b (negsuc a) (pos p) e = (omega (arith, ints, e), omega (arith, ints, e))
clamp_near n b (negsuc a) (negsuc p) e = (omega (arith, ints, e), omega (arith, ints, e))

shift_near : (n : ℕ) (b y i : ℤ) → IsAtMost b (pos (36000 * n) *ℤ y -ℤ pos 4500 *ℤ i) → IsAtMost b (pos (36000 * n) *ℤ (y +ℤ pos 128) -ℤ pos 4500 *ℤ (i +ℤ pos (8 * n * 128)))
shift_near n b y i e = let s = times-sum (pos (36000 * n)) y (pos 128) in let t = times-sum (pos 4500) i (pos (8 * n * 128)) in (omega (arith, ints, e.0, s, t), omega (arith, ints, e.1, s, t))

pub samples_are_near : ValuesAreNear → SamplesAreNear
samples_are_near values_are_near n x b r c large hr hc few =
    clamp_near n (pos (n * (22212 + 4 * b))) (value_of x r c +ℤ pos 128) (ideal n x r c +ℤ pos (8 * n * 128))
    (shift_near n (pos (n * (22212 + 4 * b))) (value_of x r c) (ideal n x r c) (values_are_near n x b r c large hr hc few))

byte_near : (a b : ℤ) → a ≤ℤ (b +ℤ pos 1) → byte_of a ≤ byte_of b + 1
byte_near (pos a) (pos b) h = omega (arith, ints, h)
byte_near (pos a) (negsuc b) h = omega (arith, ints, h)
byte_near (negsuc a) (pos b) h = omega (arith, ints, h)
byte_near (negsuc a) (negsuc b) h = omega (arith, ints, h)

byte_least : (a b : ℤ) → a ≤ℤ b → byte_of a ≤ byte_of b
byte_least (pos a) (pos b) h = omega (arith, ints, h)
byte_least (pos a) (negsuc b) h = omega (arith, ints, h)
byte_least (negsuc a) (pos b) h = omega (arith, ints, h)
byte_least (negsuc a) (negsuc b) h = omega (arith, ints, h)

module _ (n : ℕ) (y i : ℤ) (large : 10 ^ 6 ≤ n) where
  -- less than 1 from the ideal value
  floor_least : IsAtMost (pos (n * 35812)) (pos (36000 * n) *ℤ y -ℤ pos 4500 *ℤ i) → floor_div i (8 * n) ≤ℤ y
  floor_least e =
      let q = floor_div i (8 * n) in
      let f = floor_below i (8 * n) (omega (arith, large)) in
      by_lt_z y q
      (λ less. let d : (y +ℤ pos 1) ≤ℤ q = omega (arith, ints, less) in let m = times_le n _ _ d in let t = times-sum (pos n) y (pos 1) in absurd (omega (arith, ints, large, f, m, t, e.0)))
      (λ least. least)

  floor_most : IsAtMost (pos (n * 35812)) (pos (36000 * n) *ℤ y -ℤ pos 4500 *ℤ i) → y ≤ℤ (floor_div i (8 * n) +ℤ pos 1)
  floor_most e =
      let q = floor_div i (8 * n) in
      let f = floor_above i (8 * n) (omega (arith, large)) in
      by_lt_z (q +ℤ pos 1) y
      (λ less. let d : (q +ℤ pos 2) ≤ℤ y = omega (arith, ints, less) in let m = times_le n _ _ d in let t = times-sum (pos n) q (pos 2) in absurd (omega (arith, ints, large, f, m, t, e.1)))
      (λ most. most)

  -- less than 3 / 2 from it
  nearest_most : IsAtMost (pos (n * 53812)) (pos (36000 * n) *ℤ y -ℤ pos 4500 *ℤ i) → y ≤ℤ (rounded i (8 * n) +ℤ pos 1)
  nearest_most e =
      let q = rounded i (8 * n) in
      let f = floor_above (i +ℤ pos (8 * n / 2)) (8 * n) (omega (arith, large)) in
      by_lt_z (q +ℤ pos 1) y
      (λ less. let d : (q +ℤ pos 2) ≤ℤ y = omega (arith, ints, less) in let m = times_le n _ _ d in let t = times-sum (pos n) q (pos 2) in absurd (omega (arith, ints, large, f, m, t, e.1)))
      (λ most. most)

  nearest_least : IsAtMost (pos (n * 53812)) (pos (36000 * n) *ℤ y -ℤ pos 4500 *ℤ i) → rounded i (8 * n) ≤ℤ (y +ℤ pos 1)
  nearest_least e =
      let q = rounded i (8 * n) in
      let f = floor_below (i +ℤ pos (8 * n / 2)) (8 * n) (omega (arith, large)) in
      by_lt_z (y +ℤ pos 1) q
      (λ less. let d : (y +ℤ pos 2) ≤ℤ q = omega (arith, ints, less) in let m = times_le n _ _ d in let t = times-sum (pos n) y (pos 2) in absurd (omega (arith, ints, large, f, m, t, e.0)))
      (λ most. most)

pub samples_are_faithful : ValuesAreNear → SamplesAreFaithful
samples_are_faithful values_are_near x r c hr hc few n large =
    let y = value_of x r c in
    let i = ideal n x r c in
    let near = values_are_near n x 3400 r c large hr hc few in
    let least = floor_least n y i large near in
    let most = floor_most n y i large near in
    (byte_least (floor_div i (8 * n) +ℤ pos 128) (y +ℤ pos 128) (omega (arith, ints, least)), byte_least (y +ℤ pos 128) (floor_div i (8 * n) +ℤ pos 129) (omega (arith, ints, most)))

pub samples_are_rounded : ValuesAreNear → SamplesAreRounded
samples_are_rounded values_are_near n x r c large hr hc few =
    let y = value_of x r c in
    let i = ideal n x r c in
    let near = values_are_near n x 7900 r c large hr hc few in
    let most = nearest_most n y i large near in
    let least = nearest_least n y i large near in
    (byte_near (y +ℤ pos 128) (rounded i (8 * n) +ℤ pos 128) (omega (arith, ints, most)), byte_near (rounded i (8 * n) +ℤ pos 128) (y +ℤ pos 128) (omega (arith, ints, least)))
