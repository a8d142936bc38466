-- The products that sixteen lanes hold.
use Rattle.std.proofs.Common.{◌≡◌, ℕ, zero, suc, ◌+◌, ◌*◌, ◌/◌, ◌%◌, ◌^◌, ◌<◌, pos, negsuc, neg_ℤ, ◌+ℤ◌, ◌-ℤ◌, ℤ, Bool, true, false, cond, eqb, inl, inr, List, [], ◌∷◌, ◌++◌, length, get_or, map, replicate, refl, ap, ap₂, ◌∙◌, arith, w16, Fits}
use Rattle.std.proofs.lemmas.Bool.{cases_lt, eqb-true}
use Rattle.std.proofs.Math.IntN.{◌*ℤ◌}
use Rattle.std.proofs.lemmas.Int.{ints}
use Rattle.std.specs.Simd.Lanes.{zip2, pick_l, Each1}
use Rattle.jr_paint.specs.Colours.{floor_div, off}
use Rattle.jr_paint.specs.Shades.{red_over_of, green_over_of, blue_over_of, IsRaised}
use Rattle.jr_paint.proofs.EachLane.{Has, joined, has_given, has_splat, has_map, has_zip2, has_join, has_pick, has_each, below_eight}

-- the same number
same : ℤ → ℤ → Bool
same (pos a) (pos b) = eqb a b
same (negsuc a) (negsuc b) = eqb a b
same (pos a) (negsuc b) = false
same (negsuc a) (pos b) = false

same_reports : (x y : ℤ) → same x y ≡ true → x ≡ y
unfolding same
same_reports (pos a) (pos b) h = ap pos (eqb-true a b h)
same_reports (negsuc a) (negsuc b) h = ap negsuc (eqb-true a b h)
same_reports (pos a) (negsuc b) h = cc
same_reports (negsuc a) (pos b) h = cc

-- each number below n passes
all_pass : (ℕ → Bool) → ℕ → Bool
all_pass p zero = true
all_pass p (suc n) = cond (p n) (all_pass p n) false

both : (a b : Bool) → cond a b false ≡ true → (a ≡ true) × (b ≡ true)
both true b h = (refl, h)
both false b h = cc

passes : (p : ℕ → Bool) (n k : ℕ) → all_pass p n ≡ true → k < n → p k ≡ true
unfolding all_pass
passes p zero k h l = absurd (omega (arith, l))
passes p (suc n) k h l =
    let parts = both (p n) (all_pass p n) h in
    elim (cases_lt k n) [
      | inl less ↦ passes p n k parts.1 less
      | inr most ↦ let e : k ≡ n = omega (arith, l, most) in rw e parts.0
    ]

-- f and g agree on each byte, as a count shows
agree : (f g : ℕ → ℤ) → all_pass (λ k. same (f k) (g k)) 256 ≡ true → (x : ℕ) → x < 256 → f x ≡ g x
agree f g counted x l = same_reports (f x) (g x) (passes (λ k. same (f k) (g k)) 256 x counted l)

-- twice x and more
abbrev pub twice : ℕ → ℕ → ℕ
twice more x = ((x + x) % 65536 + more) % 65536

-- a product, in a lane of 32 bits
abbrev pub product : ℕ → ℕ → ℕ → ℕ
product more factor x = twice more x * factor % 4294967296

red_raised : (x : ℕ) → x < 256 → pos (product 2067 45943 x / 65536) ≡ red_over_of x +ℤ pos 1628
unfolding same all_pass
red_raised = agree (λ x. pos (product 2067 45943 x / 65536)) (λ x. red_over_of x +ℤ pos 1628) refl

blue_raised : (x : ℕ) → x < 256 → pos (product 1582 58066 x / 65536) ≡ blue_over_of x +ℤ pos 1628
unfolding same all_pass
blue_raised = agree (λ x. pos (product 1582 58066 x / 65536)) (λ x. blue_over_of x +ℤ pos 1628) refl

-- the weighted sum of two samples, each twice, in a lane of 32 bits
abbrev pub paired : ℕ → ℕ → ℕ
paired b r = ((b * 4294956019 % 4294967296 + r * 4294943895 % 4294967296) % 4294967296 + 115602944) % 4294967296

-- the sum is the same as without wrapping
paired_is : (b r : ℕ) → b < 256 → r < 256 → paired (b + b) (r + r) + 46802 * r + 22554 * b ≡ 115602944
paired_is b r p q = omega (arith, p, q)

-- 106692608 is 1628 times 65536
moved : (z : ℤ) (s : ℕ) → pos s ≡ z +ℤ pos 106692608 → pos (s / 65536) ≡ floor_div z 65536 +ℤ pos 1628
moved (pos a) s e = omega (arith, ints, e)
moved (negsuc a) s e = omega (arith, ints, e)

green_raised : (b r : ℕ) → b < 256 → r < 256 → pos (paired (b + b) (r + r) / 65536) ≡ green_over_of b r +ℤ pos 1628
green_raised b r p q =
    let whole = paired_is b r p q in
    let e : pos (paired (b + b) (r + r)) ≡ (neg_ℤ (pos 22554) *ℤ off b -ℤ pos 46802 *ℤ off r +ℤ pos 32768) +ℤ pos 106692608 = omega (arith, ints, whole) in
    moved (neg_ℤ (pos 22554) *ℤ off b -ℤ pos 46802 *ℤ off r +ℤ pos 32768) (paired (b + b) (r + r)) e

-- the sums of each sample and itself
abbrev pub doubles : List ℕ → List ℕ
doubles xs = zip2 (λ a b. (a + b) % 65536) xs xs

-- the products of twice each sample and more
abbrev pub products : ℕ → ℕ → List ℕ → List ℕ
products more factor xs =
    zip2 (λ a b. a * b % 4294967296) (map (λ a. a) (zip2 (λ a b. (a + b) % 65536) (doubles xs) (replicate 16 more))) (replicate 16 factor)

has_doubles : (xs : List ℕ) → length xs ≡ 16 → Has 16 (doubles xs) (λ k. (get_or xs k 0 + get_or xs k 0) % 65536)
has_doubles xs long = has_zip2 16 (λ a b. (a + b) % 65536) _ _ _ _ (has_given 16 xs long) (has_given 16 xs long)

has_products : (more factor : ℕ) (xs : List ℕ) → length xs ≡ 16 → Has 16 (products more factor xs) (λ k. product more factor (get_or xs k 0))
has_products more factor xs long =
    let offset = has_zip2 16 (λ a b. (a + b) % 65536) _ _ _ _ (has_doubles xs long) (has_splat 16 more) in
    has_zip2 16 (λ a b. a * b % 4294967296) _ _ _ _ (has_map 16 (λ a. a) _ _ offset) (has_splat 16 factor)

-- the upper half of each
abbrev pub halves : ℕ → List ℕ → List ℕ
halves n xs = zip2 (λ a b. a / 2 ^ b) xs (replicate n 16)

has_halves : (n : ℕ) (xs : List ℕ) (f : ℕ → ℕ) → Has n xs f → Has n (halves n xs) (λ k. f k / 65536)
has_halves n xs f h = has_zip2 n (λ a b. a / 2 ^ b) _ _ _ _ h (has_splat n 16)

-- the condition of the cast of each lane to sixteen bits: the upper half of 32 bits
halves_fit : (n : ℕ) (xs : List ℕ) (f : ℕ → ℕ) → Has n xs f → ((k : ℕ) → k < n → f k < 4294967296) → Each1 (Fits w16) (halves n xs)
halves_fit n xs f h small = has_each n (Fits w16) _ _ (has_halves n xs f h) (λ k l. record { fits = omega (arith, small k l) })

-- its result
half_at : (n : ℕ) (xs : List ℕ) (f : ℕ → ℕ) → Has n xs f → (k : ℕ) → k < n → get_or (map (λ a. a) (halves n xs)) k 0 ≡ f k / 65536
half_at n xs f h = (has_map n (λ a. a) _ _ (has_halves n xs f h)).each 0

raised_at : (v w : ℕ) (z : ℤ) → v ≡ w → pos w ≡ z +ℤ pos 1628 → w < 4096 → IsRaised v z
raised_at v w z e value small = rw e (record { value = value; small = small })

module _ (xs : List ℕ) (long : length xs ≡ 16) (small : (k : ℕ) → k < 16 → get_or xs k 0 < 256) where
  pub products_fit : (more factor : ℕ) → Each1 (Fits w16) (halves 16 (products more factor xs))
  products_fit more factor = halves_fit 16 _ _ (has_products more factor xs long) (λ k l. omega arith)

  pub red_lane : (k : ℕ) → k < 16 → IsRaised (get_or (map (λ a. a) (halves 16 (products 2067 45943 xs))) k 0) (red_over_of (get_or xs k 0))
  red_lane k l =
      let x = small k l in
      raised_at _ _ _ (half_at 16 _ _ (has_products 2067 45943 xs long) k l) (red_raised (get_or xs k 0) x) (omega (arith, x))

  pub blue_lane : (k : ℕ) → k < 16 → IsRaised (get_or (map (λ a. a) (halves 16 (products 1582 58066 xs))) k 0) (blue_over_of (get_or xs k 0))
  blue_lane k l =
      let x = small k l in
      raised_at _ _ _ (half_at 16 _ _ (has_products 1582 58066 xs long) k l) (blue_raised (get_or xs k 0) x) (omega (arith, x))

  pub length-doubles : length (doubles xs) ≡ 16
  length-doubles = (has_doubles xs long).long

  pub double_at : (k : ℕ) → k < 16 → get_or (doubles xs) k 0 ≡ get_or xs k 0 + get_or xs k 0
  double_at k l = let x = small k l in (has_doubles xs long).each 0 k l ∙ omega (arith, x)

abbrev pub factors : List ℕ
factors = 4294956019 ∷ 4294943895 ∷ 4294956019 ∷ 4294943895 ∷ 4294956019 ∷ 4294943895 ∷ 4294956019 ∷ 4294943895 ∷ 4294956019 ∷ 4294943895 ∷ 4294956019 ∷ 4294943895 ∷ 4294956019 ∷ 4294943895 ∷ 4294956019 ∷ 4294943895 ∷ []

abbrev pub evens : List ℕ
evens = 0 ∷ 2 ∷ 4 ∷ 6 ∷ 8 ∷ 10 ∷ 12 ∷ 14 ∷ []

abbrev pub odds : List ℕ
odds = 1 ∷ 3 ∷ 5 ∷ 7 ∷ 9 ∷ 11 ∷ 13 ∷ 15 ∷ []

-- the weighted sums of pairs
abbrev pub pair_products : List ℕ → List ℕ
pair_products xs = zip2 (λ a b. a * b % 4294967296) (map (λ a. a) xs) factors

abbrev pub pair_sums : List ℕ → List ℕ
pair_sums xs =
    zip2 (λ a b. (a + b) % 4294967296)
    (zip2 (λ a b. (a + b) % 4294967296) (pick_l 0 (pair_products xs ++ pair_products xs) evens) (pick_l 0 (pair_products xs ++ pair_products xs) odds))
    (replicate 8 115602944)

module _ (xs : List ℕ) (long : length xs ≡ 16) where
  weighted : ℕ → ℕ
  weighted k = get_or xs k 0 * get_or factors k 0 % 4294967296

  two : ℕ → ℕ
  two = joined 16 weighted weighted

  has_two : Has 32 (pair_products xs ++ pair_products xs) two
  unfolding weighted two
  has_two =
      let one = has_zip2 16 (λ a b. a * b % 4294967296) _ _ _ _ (has_map 16 (λ a. a) _ _ (has_given 16 xs long)) (has_given 16 factors refl) in
      has_join 16 16 _ _ _ _ one one

  has_pair_sums : Has 8 (pair_sums xs) (λ j. ((two (get_or evens j 0) + two (get_or odds j 0)) % 4294967296 + 115602944) % 4294967296)
  has_pair_sums =
      let first = has_pick 32 8 _ evens two has_two refl refl in
      let second = has_pick 32 8 _ odds two has_two refl refl in
      has_zip2 8 (λ a b. (a + b) % 4294967296) _ _ _ _ (has_zip2 8 (λ a b. (a + b) % 4294967296) _ _ _ _ first second) (has_splat 8 115602944)

  pub pair_sums_fit : Each1 (Fits w16) (halves 8 (pair_sums xs))
  pair_sums_fit = halves_fit 8 _ _ has_pair_sums (λ k l. omega arith)

  pair_value : (j : ℕ) → j < 8 → get_or (map (λ a. a) (halves 8 (pair_sums xs))) j 0 ≡ paired (get_or xs (2 * j) 0) (get_or xs (2 * j + 1) 0) / 65536
  unfolding weighted two
  pair_value j l =
      half_at 8 _ _ has_pair_sums j l
      ∙ below_eight (λ j. ((two (get_or evens j 0) + two (get_or odds j 0)) % 4294967296 + 115602944) % 4294967296 / 65536 ≡ paired (get_or xs (2 * j) 0) (get_or xs (2 * j + 1) 0) / 65536) refl refl refl refl refl refl refl refl j l

  pub pair_raised : (j b r : ℕ) → j < 8 → b < 256 → r < 256 → get_or xs (2 * j) 0 ≡ b + b → get_or xs (2 * j + 1) 0 ≡ r + r → IsRaised (get_or (map (λ a. a) (halves 8 (pair_sums xs))) j 0) (green_over_of b r)
  pair_raised j b r l p q e f =
      let value = pair_value j l ∙ ap₂ (λ x y. paired x y / 65536) e f in
      let whole = paired_is b r p q in
      raised_at _ _ _ value (green_raised b r p q) (omega (arith, whole))
