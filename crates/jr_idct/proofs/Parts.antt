-- Entries of a pass from their even and odd parts, a lane at a time.
use Rattle.std.proofs.Common.{◌≡◌, ℕ, ◌-◌, ◌<◌, ◌+ℤ◌, ◌-ℤ◌, ℤ, Bool, true, false, List, [], ◌∷◌, arith, lit<}
use Rattle.std.proofs.lemmas.Int.{ints}
use Rattle.jr_idct.specs.Lanes.{half_lane, lane, AreShort, IsShort}
use Rattle.jr_idct.specs.Matrix.{at, even_sum, odd_sum, row_sum}
use Rattle.jr_idct.proofs.Halves.{half_lane_below}
use Rattle.jr_idct.proofs.PairSums.{below_sixteen}
use Rattle.jr_idct.proofs.Passes.{sum_is_row, difference_is_row}

-- a predicate that holds for each lane of both halves holds for each of the sixteen
pub by_halves : (P : ℕ → Type 0) → ((u : Bool) (j : ℕ) → j < 8 → P (half_lane u j)) → (p : ℕ) → p < 16 → P p
by_halves P h =
    below_sixteen P
    (h false 0 (lit< tt)) (h false 1 (lit< tt)) (h false 2 (lit< tt)) (h false 3 (lit< tt)) (h true 0 (lit< tt)) (h true 1 (lit< tt)) (h true 2 (lit< tt)) (h true 3 (lit< tt))
    (h false 4 (lit< tt)) (h false 5 (lit< tt)) (h false 6 (lit< tt)) (h false 7 (lit< tt)) (h true 4 (lit< tt)) (h true 5 (lit< tt)) (h true 6 (lit< tt)) (h true 7 (lit< tt))

module _ (rows : List (List ℤ)) (c : ℤ) (u : Bool) (i : ℕ) (b : i < 4) (e o : List ℤ)
    (is_even : (j : ℕ) → j < 8 → at e j ≡ even_sum i (lane rows 0 (half_lane u j) ∷ lane rows 2 (half_lane u j) ∷ lane rows 4 (half_lane u j) ∷ lane rows 6 (half_lane u j) ∷ []) +ℤ c)
    (is_odd : (j : ℕ) → j < 8 → at o j ≡ odd_sum i (lane rows 1 (half_lane u j) ∷ lane rows 3 (half_lane u j) ∷ lane rows 5 (half_lane u j) ∷ lane rows 7 (half_lane u j) ∷ [])) where
  pub sum_of_parts : (j : ℕ) → j < 8 → at e j +ℤ at o j ≡ row_sum i (λ k. lane rows k (half_lane u j)) +ℤ c
  sum_of_parts j h =
      let s = sum_is_row (λ k. lane rows k (half_lane u j)) i b in
      let x = is_even j h in
      let y = is_odd j h in
      shuffled _ _ _ _ c _ x y s
    where
      shuffled : (a d p q c r : ℤ) → a ≡ p +ℤ c → d ≡ q → p +ℤ q ≡ r → a +ℤ d ≡ r +ℤ c
      shuffled a d p q c r x y s = omega (arith, ints, x, y, s)

  pub difference_of_parts : (j : ℕ) → j < 8 → at e j -ℤ at o j ≡ row_sum (7 - i) (λ k. lane rows k (half_lane u j)) +ℤ c
  difference_of_parts j h =
      let s = difference_is_row (λ k. lane rows k (half_lane u j)) i b in
      let x = is_even j h in
      let y = is_odd j h in
      shuffled _ _ _ _ c _ x y s
    where
      shuffled : (a d p q c r : ℤ) → a ≡ p +ℤ c → d ≡ q → p -ℤ q ≡ r → a -ℤ d ≡ r +ℤ c
      shuffled a d p q c r x y s = omega (arith, ints, x, y, s)

  pub short_parts : (bits : ℕ) → ((i p : ℕ) → i < 8 → p < 16 → IsShort bits (row_sum i (λ k. lane rows k p) +ℤ c)) → AreShort bits e o
  short_parts bits short j h =
      let first = short i (half_lane u j) (omega (arith, b)) (half_lane_below u j h) in
      let last = short (7 - i) (half_lane u j) (omega (arith, b)) (half_lane_below u j h) in
      (rw (sum_of_parts j h) first, rw (difference_of_parts j h) last)
