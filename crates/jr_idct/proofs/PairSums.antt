-- Products with two constants by turns, summed in pairs.
use Rattle.std.proofs.Common.{◌≡◌, ℕ, ◌+◌, ◌-◌, ◌*◌, ◌%◌, ◌^◌, ◌<◌, ◌++◌, subst, inl, inr, get_or, ◌+ℤ◌, ℤ, pos, Bool, true, false, cond, nat_eq, List, [], ◌∷◌, map, refl, arith, ◌∙◌, w16, w32, to_z, of_z, FitsSigned, lit<}
use mir.Val.{Val}
use denote.Array.{in_array}
use denote.Shadow.{shadow}
use denote.Signed.{SInt}
use Rattle.std.proofs.Math.IntN.{◌*ℤ◌}
use Rattle.std.proofs.lemmas.Int.{ints}
use Rattle.std.specs.Simd.Lanes.{zip2, pick_l}
use Rattle.jr_idct.specs.Lanes.{half_lane, word_lanes}
use Rattle.jr_idct.specs.Matrix.{at, IsWithin}
use Rattle.jr_idct.proofs.Holds.{Holds, holds_given, holds_wide, holds_add, holds_mul}
use Rattle.jr_idct.proofs.Passes.{below_eight}
use Rattle.jr_idct.proofs.Vectors.{Lanes, joined, at_joined, lanes_fit, lanes_given, lanes_map, lanes_zip, lanes_join, lanes_pick, lanes_read}
use Rattle.jr_idct.proofs.Whole.{product_within}
use Rattle.std.proofs.lemmas.Bool.{cases_lt}

pub below_sixteen : (P : ℕ → Type 0) → P 0 → P 1 → P 2 → P 3 → P 4 → P 5 → P 6 → P 7 → P 8 → P 9 → P 10 → P 11 → P 12 → P 13 → P 14 → P 15 → (i : ℕ) → i < 16 → P i
below_sixteen P p0 p1 p2 p3 p4 p5 p6 p7 p8 p9 p10 p11 p12 p13 p14 p15 i h =
    elim (cases_lt i 8) [
      | inl a ↦ below_eight P p0 p1 p2 p3 p4 p5 p6 p7 i a
      | inr b ↦
          let e : 8 + (i - 8) ≡ i = omega (arith, b) in
          subst P e (below_eight (λ k. P (8 + k)) p8 p9 p10 p11 p12 p13 p14 p15 (i - 8) (omega (arith, b, h)))
    ]

-- lanes of two vectors by turns
module _ (a b : List ℤ) (vs us : List Val) (g : shadow (in_array ℤ (SInt w16).own_val 16 a vs)) (h : shadow (in_array ℤ (SInt w16).own_val 16 b us)) where
  lane_of : (k : ℕ) → at (a ++ b) k ≡ joined 16 (at a) (at b) k
  lane_of = at_joined w16 16 16 a b vs us g h

  pub words_first : (u : Bool) (j : ℕ) → j < 8 → at (pick_l (pos 0) (a ++ b) (word_lanes u)) (2 * j) ≡ at a (half_lane u j)
  words_first true = below_eight (λ j. at (pick_l (pos 0) (a ++ b) (word_lanes true)) (2 * j) ≡ at a (half_lane true j)) (lane_of 4) (lane_of 5) (lane_of 6) (lane_of 7) (lane_of 12) (lane_of 13) (lane_of 14) (lane_of 15)
  words_first false = below_eight (λ j. at (pick_l (pos 0) (a ++ b) (word_lanes false)) (2 * j) ≡ at a (half_lane false j)) (lane_of 0) (lane_of 1) (lane_of 2) (lane_of 3) (lane_of 8) (lane_of 9) (lane_of 10) (lane_of 11)

  pub words_second : (u : Bool) (j : ℕ) → j < 8 → at (pick_l (pos 0) (a ++ b) (word_lanes u)) (2 * j + 1) ≡ at b (half_lane u j)
  words_second true = below_eight (λ j. at (pick_l (pos 0) (a ++ b) (word_lanes true)) (2 * j + 1) ≡ at b (half_lane true j)) (lane_of 20) (lane_of 21) (lane_of 22) (lane_of 23) (lane_of 28) (lane_of 29) (lane_of 30) (lane_of 31)
  words_second false = below_eight (λ j. at (pick_l (pos 0) (a ++ b) (word_lanes false)) (2 * j + 1) ≡ at b (half_lane false j)) (lane_of 16) (lane_of 17) (lane_of 18) (lane_of 19) (lane_of 24) (lane_of 25) (lane_of 26) (lane_of 27)

-- the constants by turns
abbrev turns : ℤ → ℤ → ℕ → ℤ
turns x y k = cond (nat_eq (k % 2) 0) x y

abbrev pub constants : ℕ → ℕ → List ℕ
constants m n = m ∷ n ∷ m ∷ n ∷ m ∷ n ∷ m ∷ n ∷ m ∷ n ∷ m ∷ n ∷ m ∷ n ∷ m ∷ n ∷ []

hold_turns : (m n : ℕ) (x y : ℤ) → Holds w32 m x → Holds w32 n y → Lanes w32 16 (constants m n) (turns x y)
hold_turns m n x y h g = record {
  long = refl;
  each = below_sixteen _ h g h g h g h g h g h g h g h g;
}

abbrev pub widened : ℕ → ℕ
widened m = of_z w32 (to_z w16 m)

abbrev pub products : ℤ → ℤ → List ℤ → List ℕ
products x y ps = zip2 (λ a b. (a * b) % 4294967296) (constants (widened (of_z w16 x)) (widened (of_z w16 y))) (map widened (map (of_z w16) ps))

abbrev pub sums : List ℕ → List ℕ
sums m = zip2 (λ a b. (a + b) % 4294967296) (pick_l 0 (m ++ m) (0 ∷ 2 ∷ 4 ∷ 6 ∷ 8 ∷ 10 ∷ 12 ∷ 14 ∷ [])) (pick_l 0 (m ++ m) (1 ∷ 3 ∷ 5 ∷ 7 ∷ 9 ∷ 11 ∷ 13 ∷ 15 ∷ []))

module _ (x y : ℤ) (xs : IsWithin (2 ^ 14) x) (ys : IsWithin (2 ^ 14) y) (ps : List ℤ) (vs : List Val) (good : shadow (in_array ℤ (SInt w16).own_val 16 ps vs)) where
  product : ℕ → ℤ
  product k = turns x y k *ℤ at ps k

  small : (k : ℕ) → k < 16 → IsWithin (2 ^ 29) (product k)
  unfolding product
  small k l =
      let f = lanes_fit w16 16 ps vs good k l in
      let w : IsWithin (2 ^ 15) (at ps k) = (omega (arith, ints, f), omega (arith, ints, f)) in
      product_within (2 ^ 14) (2 ^ 15) (turns x y k) (at ps k) (below_sixteen (λ k. IsWithin (2 ^ 14) (turns x y k)) xs ys xs ys xs ys xs ys xs ys xs ys xs ys xs ys k l) w

  hold_products : Lanes w32 16 (products x y ps) product
  unfolding product
  hold_products =
      let fx : FitsSigned w16 x = omega (arith, ints, xs) in
      let fy : FitsSigned w16 y = omega (arith, ints, ys) in
      let constants = hold_turns _ _ x y (holds_wide _ x (holds_given w16 x fx)) (holds_wide _ y (holds_given w16 y fy)) in
      let wide = lanes_map w16 w32 16 (map (of_z w16) ps) (at ps) (at ps) widened (lanes_given w16 16 ps vs good) (λ m k l h. holds_wide m (at ps k) h) in
      lanes_zip w32 w32 w32 16 _ _ (turns x y) (at ps) product (λ a b. (a * b) % 4294967296) constants wide
      (λ m n k l h g. let s = small k l in holds_mul m n (turns x y k) (at ps k) h g (omega (arith, ints, s)))

  fit : (i j : ℕ) → i < 16 → j < 16 → FitsSigned w32 (product i +ℤ product j)
  fit i j a b = let s = small i a in let t = small j b in omega (arith, ints, s, t)

  both : ℕ → ℤ
  both = joined 16 product product

  pub pair_sums : (j : ℕ) → j < 8 → at (map (to_z w32) (sums (products x y ps))) j ≡ x *ℤ at ps (2 * j) +ℤ y *ℤ at ps (2 * j + 1)
  unfolding product both
  pair_sums j l =
      let m = lanes_join w32 16 16 _ _ product product hold_products hold_products in
      let evens : List ℕ = 0 ∷ 2 ∷ 4 ∷ 6 ∷ 8 ∷ 10 ∷ 12 ∷ 14 ∷ [] in
      let odds : List ℕ = 1 ∷ 3 ∷ 5 ∷ 7 ∷ 9 ∷ 11 ∷ 13 ∷ 15 ∷ [] in
      let first = lanes_pick w32 32 8 _ evens both m refl refl in
      let second = lanes_pick w32 32 8 _ odds both m refl refl in
      let each : (k : ℕ) → k < 8 → FitsSigned w32 (both (get_or evens k 0) +ℤ both (get_or odds k 0)) =
      below_eight _ (fit 0 1 (lit< tt) (lit< tt)) (fit 2 3 (lit< tt) (lit< tt)) (fit 4 5 (lit< tt) (lit< tt)) (fit 6 7 (lit< tt) (lit< tt)) (fit 8 9 (lit< tt) (lit< tt)) (fit 10 11 (lit< tt) (lit< tt)) (fit 12 13 (lit< tt) (lit< tt)) (fit 14 15 (lit< tt) (lit< tt)) in
      let sum = lanes_zip w32 w32 w32 8 _ _ _ _ (λ k. both (get_or evens k 0) +ℤ both (get_or odds k 0)) (λ a b. (a + b) % 4294967296) first second (λ a b k l h g. holds_add a b _ _ h g (each k l)) in
      lanes_read w32 8 _ _ sum j l
      ∙ below_eight (λ j. both (get_or evens j 0) +ℤ both (get_or odds j 0) ≡ x *ℤ at ps (2 * j) +ℤ y *ℤ at ps (2 * j + 1)) refl refl refl refl refl refl refl refl j l
