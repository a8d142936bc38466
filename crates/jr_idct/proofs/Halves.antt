-- Sums and differences of vectors of eight lanes of 32 bits.
use Rattle.std.proofs.Common.{◌≡◌, ℕ, ◌+◌, ◌-◌, ◌%◌, ◌^◌, ◌<◌, ◌+ℤ◌, ◌-ℤ◌, ℤ, pos, Bool, true, false, List, [], ◌∷◌, map, replicate, subst, sym, ◌∙◌, arith, w16, w32, to_z, of_z, FitsSigned}
use mir.Val.{Val}
use denote.Array.{in_array}
use denote.Shadow.{shadow}
use denote.Signed.{SInt}
use Rattle.std.proofs.Math.IntN.{◌*ℤ◌}
use Rattle.std.proofs.lemmas.Int.{ints}
use Rattle.std.proofs.lemmas.Simd.{zip2_splat}
use Rattle.std.specs.Int.Signed.{shr_z}
use Rattle.std.specs.Simd.Lanes.{zip2}
use Rattle.jr_idct.specs.Lanes.{half_lane}
use Rattle.jr_idct.specs.Matrix.{at, even_sum, odd_sum, weight, IsWithin}
use Rattle.jr_idct.proofs.Holds.{holds_given, holds_add, holds_sub, holds_shr}
use Rattle.jr_idct.proofs.Passes.{below_four, odd_sum_within}
use Rattle.jr_idct.proofs.Vectors.{Lanes, lanes_fit, lanes_given, lanes_splat, lanes_map, lanes_zip, lanes_read}

pub half_lane_below : (u : Bool) (j : ℕ) → j < 8 → half_lane u j < 16
half_lane_below true j h = omega (arith, h)
half_lane_below false j h = omega (arith, h)

abbrev pub plus : List ℕ → List ℕ → List ℕ
plus = zip2 (λ a b. (a + b) % 4294967296)

abbrev pub minus_lanes : List ℕ → List ℕ → List ℕ
minus_lanes = zip2 (λ a b. (a + (4294967296 - b)) % 4294967296)

pub lanes_plus : (xs ys : List ℕ) (f g : ℕ → ℤ) → Lanes w32 8 xs f → Lanes w32 8 ys g → ((k : ℕ) → k < 8 → FitsSigned w32 (f k +ℤ g k)) → Lanes w32 8 (plus xs ys) (λ k. f k +ℤ g k)
lanes_plus xs ys f g p q fit = lanes_zip w32 w32 w32 8 xs ys f g (λ k. f k +ℤ g k) _ p q (λ m n k l h i. holds_add m n (f k) (g k) h i (fit k l))

pub lanes_minus : (xs ys : List ℕ) (f g : ℕ → ℤ) → Lanes w32 8 xs f → Lanes w32 8 ys g → ((k : ℕ) → k < 8 → FitsSigned w32 (f k -ℤ g k)) → Lanes w32 8 (minus_lanes xs ys) (λ k. f k -ℤ g k)
lanes_minus xs ys f g p q fit = lanes_zip w32 w32 w32 8 xs ys f g (λ k. f k -ℤ g k) _ p q (λ m n k l h i. holds_sub m n (f k) (g k) h i (fit k l))

abbrev pub Good : List ℤ → List Val → Type 0
Good xs vs = shadow (in_array ℤ (SInt w32).own_val 8 xs vs)

-- eight numbers of sixteen bits
abbrev pub Short : (ℕ → ℤ) → Type 0
Short x = (k : ℕ) → k < 8 → IsWithin 32768 (x k)

-- the lanes of a half are such numbers
pub lane_within : (xs : List ℤ) (vs : List Val) → shadow (in_array ℤ (SInt w16).own_val 16 xs vs) → (u : Bool) → Short (λ j. at xs (half_lane u j))
lane_within xs vs good u j h =
    let f = lanes_fit w16 16 xs vs good (half_lane u j) (half_lane_below u j h) in
    (omega (arith, ints, f), omega (arith, ints, f))

pub plus_is : (p q : List ℤ) (ps qs : List Val) → Good p ps → Good q qs → ((k : ℕ) → k < 8 → FitsSigned w32 (at p k +ℤ at q k)) → (j : ℕ) → j < 8
    → at (map (to_z w32) (plus (map (of_z w32) p) (map (of_z w32) q))) j ≡ at p j +ℤ at q j
plus_is p q ps qs gp gq fit j h = lanes_read w32 8 _ _ (lanes_plus _ _ (at p) (at q) (lanes_given w32 8 p ps gp) (lanes_given w32 8 q qs gq) fit) j h

-- the even part of x0, x2, x4 and x6, each of 16 bits: s and t are the first and the third scaled, o and n sums of the others
module _ (x0 x2 x4 x6 : ℕ → ℤ) (w0 : Short x0) (w2 : Short x2) (w4 : Short x4) (w6 : Short x6) (c : ℤ) (wc : IsWithin (2 ^ 26) c)
    (s t o n : List ℤ) (ss ts os ns : List Val) (gs : Good s ss) (gt : Good t ts) (go : Good o os) (gn : Good n ns)
    (is_s : (k : ℕ) → k < 8 → at s k ≡ pos 8192 *ℤ x0 k) (is_t : (k : ℕ) → k < 8 → at t k ≡ pos 8192 *ℤ x4 k)
    (is_o : (k : ℕ) → k < 8 → at o k ≡ weight 0 2 *ℤ x2 k +ℤ weight 0 6 *ℤ x6 k) (is_n : (k : ℕ) → k < 8 → at n k ≡ weight 1 2 *ℤ x2 k +ℤ weight 1 6 *ℤ x6 k) where
  small_s : (k : ℕ) → k < 8 → IsWithin (2 ^ 28) (at s k)
  small_s k h = let w = w0 k h in rw (is_s k h) (omega (arith, ints, w), omega (arith, ints, w))

  small_t : (k : ℕ) → k < 8 → IsWithin (2 ^ 28) (at t k)
  small_t k h = let w = w4 k h in rw (is_t k h) (omega (arith, ints, w), omega (arith, ints, w))

  small_o : (k : ℕ) → k < 8 → IsWithin (2 ^ 29) (at o k)
  small_o k h = let v = w2 k h in let w = w6 k h in rw (is_o k h) (omega (arith, ints, v, w), omega (arith, ints, v, w))

  small_n : (k : ℕ) → k < 8 → IsWithin (2 ^ 29) (at n k)
  small_n k h = let v = w2 k h in let w = w6 k h in rw (is_n k h) (omega (arith, ints, v, w), omega (arith, ints, v, w))

  abbrev pub with_constant : List ℕ
  with_constant = plus (map (of_z w32) s) (replicate 8 (of_z w32 c))

  first : Lanes w32 8 with_constant (λ k. at s k +ℤ c)
  first = lanes_plus _ _ (at s) (λ _. c) (lanes_given w32 8 s ss gs) (lanes_splat w32 8 (of_z w32 c) c (holds_given w32 c (omega (arith, ints, wc)))) (λ k h. let a = small_s k h in omega (arith, ints, a, wc))

  sum : Lanes w32 8 (plus with_constant (map (of_z w32) t)) (λ k. at s k +ℤ c +ℤ at t k)
  sum = lanes_plus _ _ (λ k. at s k +ℤ c) (at t) first (lanes_given w32 8 t ts gt) (λ k h. let a = small_s k h in let b = small_t k h in omega (arith, ints, a, b, wc))

  difference : Lanes w32 8 (minus_lanes with_constant (map (of_z w32) t)) (λ k. at s k +ℤ c -ℤ at t k)
  difference = lanes_minus _ _ (λ k. at s k +ℤ c) (at t) first (lanes_given w32 8 t ts gt) (λ k h. let a = small_s k h in let b = small_t k h in omega (arith, ints, a, b, wc))

  abbrev pub even_entry : ℕ → List ℕ → Type 0
  even_entry i xs = (j : ℕ) → j < 8 → at (map (to_z w32) xs) j ≡ even_sum i (x0 j ∷ x2 j ∷ x4 j ∷ x6 j ∷ []) +ℤ c

  even_0 : even_entry 0 (plus (plus with_constant (map (of_z w32) t)) (map (of_z w32) o))
  even_0 j l =
      lanes_read w32 8 _ _ (lanes_plus _ _ (λ k. at s k +ℤ c +ℤ at t k) (at o) sum (lanes_given w32 8 o os go) (λ k h. let a = small_s k h in let b = small_t k h in let d = small_o k h in omega (arith, ints, a, b, d, wc))) j l
      ∙ (let a = is_s j l in let b = is_t j l in let d = is_o j l in omega (arith, ints, a, b, d))

  even_1 : even_entry 1 (plus (minus_lanes with_constant (map (of_z w32) t)) (map (of_z w32) n))
  even_1 j l =
      lanes_read w32 8 _ _ (lanes_plus _ _ (λ k. at s k +ℤ c -ℤ at t k) (at n) difference (lanes_given w32 8 n ns gn) (λ k h. let a = small_s k h in let b = small_t k h in let d = small_n k h in omega (arith, ints, a, b, d, wc))) j l
      ∙ (let a = is_s j l in let b = is_t j l in let d = is_n j l in omega (arith, ints, a, b, d))

  even_2 : even_entry 2 (minus_lanes (minus_lanes with_constant (map (of_z w32) t)) (map (of_z w32) n))
  even_2 j l =
      lanes_read w32 8 _ _ (lanes_minus _ _ (λ k. at s k +ℤ c -ℤ at t k) (at n) difference (lanes_given w32 8 n ns gn) (λ k h. let a = small_s k h in let b = small_t k h in let d = small_n k h in omega (arith, ints, a, b, d, wc))) j l
      ∙ (let a = is_s j l in let b = is_t j l in let d = is_n j l in omega (arith, ints, a, b, d))

  even_3 : even_entry 3 (minus_lanes (plus with_constant (map (of_z w32) t)) (map (of_z w32) o))
  even_3 j l =
      lanes_read w32 8 _ _ (lanes_minus _ _ (λ k. at s k +ℤ c +ℤ at t k) (at o) sum (lanes_given w32 8 o os go) (λ k h. let a = small_s k h in let b = small_t k h in let d = small_o k h in omega (arith, ints, a, b, d, wc))) j l
      ∙ (let a = is_s j l in let b = is_t j l in let d = is_o j l in omega (arith, ints, a, b, d))

  pub even_entries : even_entry 0 (plus (plus with_constant (map (of_z w32) t)) (map (of_z w32) o)) × even_entry 1 (plus (minus_lanes with_constant (map (of_z w32) t)) (map (of_z w32) n))
      × even_entry 2 (minus_lanes (minus_lanes with_constant (map (of_z w32) t)) (map (of_z w32) n)) × even_entry 3 (minus_lanes (plus with_constant (map (of_z w32) t)) (map (of_z w32) o))
  even_entries = (even_0, even_1, even_2, even_3)

-- an entry of the odd part of x1, x3, x5 and x7: p is a sum of the first two, q of the others
pub odd_entry : (x1 x3 x5 x7 : ℕ → ℤ) → Short x1 → Short x3 → Short x5 → Short x7 → (i : ℕ) → i < 4 → (p q : List ℤ) (ps qs : List Val) → Good p ps → Good q qs
    → ((k : ℕ) → k < 8 → at p k ≡ weight i 1 *ℤ x1 k +ℤ weight i 3 *ℤ x3 k) → ((k : ℕ) → k < 8 → at q k ≡ weight i 5 *ℤ x5 k +ℤ weight i 7 *ℤ x7 k)
    → (j : ℕ) → j < 8 → at (map (to_z w32) (plus (map (of_z w32) p) (map (of_z w32) q))) j ≡ odd_sum i (x1 j ∷ x3 j ∷ x5 j ∷ x7 j ∷ [])
odd_entry x1 x3 x5 x7 w1 w3 w5 w7 i b p q ps qs gp gq is_p is_q j h =
    let sum : (k : ℕ) → k < 8 → at p k +ℤ at q k ≡ odd_sum i (x1 k ∷ x3 k ∷ x5 k ∷ x7 k ∷ []) = λ k l. (let a = is_p k l in let d = is_q k l in omega (arith, ints, a, d)) in
    let fit : (k : ℕ) → k < 8 → FitsSigned w32 (at p k +ℤ at q k) =
    λ k l. (let s = odd_sum_within 32768 (x1 k ∷ x3 k ∷ x5 k ∷ x7 k ∷ []) (below_four _ (w1 k l) (w3 k l) (w5 k l) (w7 k l)) i b in rw (sum k l) (omega (arith, ints, s))) in
    plus_is p q ps qs gp gq fit j h ∙ sum j h

abbrev pub shift : ℕ → ℕ → ℕ
shift a b = of_z w32 (shr_z (to_z w32 a) (2 ^ b))

pub lanes_shift : (bits : ℕ) (xs : List ℕ) (f : ℕ → ℤ) → Lanes w32 8 xs f → Lanes w32 8 (zip2 shift xs (replicate 8 bits)) (λ k. shr_z (f k) (2 ^ bits))
lanes_shift bits xs f p =
    subst (λ ys. Lanes w32 8 ys (λ k. shr_z (f k) (2 ^ bits))) (sym (zip2_splat shift xs 8 bits p.long))
    (lanes_map w32 w32 8 xs f (λ k. shr_z (f k) (2 ^ bits)) (λ a. shift a bits) p (λ m k l h. holds_shr m (f k) (2 ^ bits) h))

module _ (p q : List ℤ) (ps qs : List Val) (gp : Good p ps) (gq : Good q qs) (bits : ℕ) where
  pub sum_shifted : ((k : ℕ) → k < 8 → FitsSigned w32 (at p k +ℤ at q k)) → (j : ℕ) → j < 8
      → at (map (to_z w32) (zip2 shift (plus (map (of_z w32) p) (map (of_z w32) q)) (replicate 8 bits))) j ≡ shr_z (at p j +ℤ at q j) (2 ^ bits)
  sum_shifted fit j h = lanes_read w32 8 _ _ (lanes_shift bits _ _ (lanes_plus _ _ (at p) (at q) (lanes_given w32 8 p ps gp) (lanes_given w32 8 q qs gq) fit)) j h

  pub difference_shifted : ((k : ℕ) → k < 8 → FitsSigned w32 (at p k -ℤ at q k)) → (j : ℕ) → j < 8
      → at (map (to_z w32) (zip2 shift (minus_lanes (map (of_z w32) p) (map (of_z w32) q)) (replicate 8 bits))) j ≡ shr_z (at p j -ℤ at q j) (2 ^ bits)
  difference_shifted fit j h = lanes_read w32 8 _ _ (lanes_shift bits _ _ (lanes_minus _ _ (at p) (at q) (lanes_given w32 8 p ps gp) (lanes_given w32 8 q qs gq) fit)) j h
