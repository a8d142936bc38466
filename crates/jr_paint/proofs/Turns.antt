-- Vectors of numbers by turns: those with even numbers, and those with odd ones.
use Rattle.std.proofs.Common.{◌≡◌, ℕ, zero, suc, ◌+◌, ◌*◌, ◌/◌, ◌%◌, ◌^◌, ◌<◌, ◌≤◌, List, [], ◌∷◌, length, get_or, map, replicate, refl, subst, ap, ◌∙◌, inl, inr, arith, w8, Fits}
use Rattle.std.specs.Int.Bits.{bit_and}
use Rattle.std.specs.Simd.Lanes.{chunk, digits_l, number_l, zip2, Each1}
use Rattle.std.proofs.lemmas.Bool.{cases_lt}
use Rattle.std.proofs.lemmas.Nat.{and_mask}
use Rattle.std.proofs.lemmas.Simd.{get_or_wider, get_or-chunk, length-chunk, below_from_Fits, chunk-fits, Each1-get_or}
use Rattle.std.proofs.lemmas.Grind.{get_or_default_zero}
use Rattle.std.specs.Prelude.{slice_index_or}
use Rattle.jr_paint.specs.Lines.{packed, turn_of}
use Rattle.jr_paint.specs.Shades.{lowered}
use Rattle.jr_paint.proofs.EachLane.{Has, has_given, has_splat, has_map, has_zip2}

-- two digits, the lower first
two_digits : (p : ℕ) (xs : List ℕ) → length xs ≡ 2 → number_l p xs ≡ get_or xs 0 0 + p * get_or xs 1 0
two_digits p (x ∷ y ∷ []) e = rw (zeroes p) refl
  where
    zeroes : (p : ℕ) → y + p * 0 ≡ y
    zeroes p = grind arith
two_digits p [] e = absurd (omega (arith, e))
two_digits p (x ∷ []) e = absurd (omega (arith, e))
two_digits p (x ∷ y ∷ z ∷ xs) e = absurd (omega (arith, e))

-- the 16-bit words of 32 bytes
abbrev pub words_of : List ℕ → List ℕ
words_of xs = digits_l 65536 16 (number_l 256 xs)

length-digits : (p n x : ℕ) → length (digits_l p n x) ≡ n
length-digits p zero x = refl
length-digits p (suc n) x = ap suc (length-digits p n (x / p))

module _ (xs : List ℕ) (long : length xs ≡ 32) (small : Each1 (Fits w8) xs) where
  byte : (j : ℕ) → j < 32 → get_or xs j 0 < 256
  byte j l = (Each1-get_or (Fits w8) xs j 0 (omega (arith, l, long)) small).fits

  word_is : (k : ℕ) → k < 16 → get_or (words_of xs) k 0 ≡ get_or xs (2 * k) 0 + 256 * get_or xs (2 * k + 1) 0
  word_is k l =
      let two : length (chunk (2 * k) 2 xs) ≡ 2 = length-chunk (2 * k) 2 xs (omega (arith, l, long)) in
      let first : get_or (chunk (2 * k) 2 xs) 0 0 ≡ get_or xs (2 * k) 0 = get_or-chunk (2 * k) 2 xs 0 0 (omega arith) ∙ ap (λ j. get_or xs j 0) (omega arith) in
      let second : get_or (chunk (2 * k) 2 xs) 1 0 ≡ get_or xs (2 * k + 1) 0 = get_or-chunk (2 * k) 2 xs 1 0 (omega arith) in
      get_or_wider 256 2 65536 16 xs k refl (below_from_Fits w8 xs small) l
      ∙ two_digits 256 (chunk (2 * k) 2 xs) two
      ∙ (λ i. first i + 256 * second i)

  has_words : Has 16 (words_of xs) (λ k. get_or xs (2 * k) 0 + 256 * get_or xs (2 * k + 1) 0)
  has_words = record {
    long = length-digits 65536 16 (number_l 256 xs);
    each = λ d k l. same_at d k l ∙ word_is k l;
  }
    where
      same_at : (d k : ℕ) → k < 16 → get_or (words_of xs) k d ≡ get_or (words_of xs) k 0
      same_at d k l = get_or_default_zero (words_of xs) k d (omega (arith, l, length-digits 65536 16 (number_l 256 xs)))

  pub even_bytes : (k : ℕ) → k < 16 → get_or (zip2 bit_and (words_of xs) (replicate 16 255)) k 0 ≡ get_or xs (2 * k) 0
  even_bytes k l =
      let a = byte (2 * k) (omega (arith, l)) in
      (has_zip2 16 bit_and _ _ _ _ has_words (has_splat 16 255)).each 0 k l
      ∙ and_mask (get_or xs (2 * k) 0 + 256 * get_or xs (2 * k + 1) 0) 8 ∙ omega (arith, a)

  pub odd_bytes : (k : ℕ) → k < 16 → get_or (zip2 (λ a b. a / 2 ^ b) (words_of xs) (replicate 16 8)) k 0 ≡ get_or xs (2 * k + 1) 0
  odd_bytes k l =
      let a = byte (2 * k) (omega (arith, l)) in
      (has_zip2 16 (λ a b. a / 2 ^ b) _ _ _ _ has_words (has_splat 16 8)).each 0 k l ∙ omega (arith, a)

-- sixteen bytes, widened
pub chunk_at : (i : ℕ) (bytes : List ℕ) → i + 16 ≤ length bytes → (k : ℕ) → k < 16 → get_or (map (λ a. a) (chunk i 16 bytes)) k 0 ≡ get_or bytes (i + k) 0
chunk_at i bytes p k l =
    (has_map 16 (λ a. a) _ _ (has_given 16 (chunk i 16 bytes) (length-chunk i 16 bytes p))).each 0 k l
    ∙ get_or-chunk i 16 bytes k 0 l

-- 32 bytes by turns
module _ (i : ℕ) (bytes : List ℕ) (inside : i + 32 ≤ length bytes) (small : (k : ℕ) → Fits w8 (get_or bytes k 0)) where
  pub even_of : (k : ℕ) → k < 16 → get_or (zip2 bit_and (words_of (chunk i 32 bytes)) (replicate 16 255)) k 0 ≡ get_or bytes (i + 2 * k) 0
  even_of k l = even_bytes (chunk i 32 bytes) (length-chunk i 32 bytes inside) (chunk-fits w8 i 32 bytes small) k l ∙ get_or-chunk i 32 bytes (2 * k) 0 (omega (arith, l))

  pub odd_of : (k : ℕ) → k < 16 → get_or (zip2 (λ a b. a / 2 ^ b) (words_of (chunk i 32 bytes)) (replicate 16 8)) k 0 ≡ get_or bytes (i + (2 * k + 1)) 0
  odd_of k l = odd_bytes (chunk i 32 bytes) (length-chunk i 32 bytes inside) (chunk-fits w8 i 32 bytes small) k l ∙ get_or-chunk i 32 bytes (2 * k + 1) 0 (omega (arith, l))

-- a predicate that holds for the entries with even numbers, and for the others, holds for all
pub by_turns : (P : ℕ → ℕ → Type 0) (a b : List ℕ) → ((k : ℕ) → k < 16 → P (2 * k) (get_or a k 0)) → ((k : ℕ) → k < 16 → P (2 * k + 1) (get_or b k 0)) → (k : ℕ) → k < 32 → P k (turn_of (a ∷ b ∷ []) k)
by_turns P a b p q k l =
    elim (cases_lt (k % 2) 1) [
      | inl even ↦
          let z : k % 2 ≡ 0 = omega (arith, even) in
          let e : 2 * (k / 2) ≡ k = omega (arith, even) in
          rw z (subst (λ j. P j (get_or a (k / 2) 0)) e (p (k / 2) (omega (arith, l))))
      | inr odd ↦
          let z : k % 2 ≡ 1 = omega (arith, odd) in
          let e : 2 * (k / 2) + 1 ≡ k = omega (arith, odd) in
          rw z (subst (λ j. P j (get_or b (k / 2) 0)) e (q (k / 2) (omega (arith, l))))
    ]

-- pixel k is in the vector of its turn
packed_turn : (k : ℕ) → packed k / 8 % 2 ≡ k % 2
packed_turn k = omega arith

packed_lane : (k : ℕ) → 8 * (packed k / 16) + packed k % 8 ≡ k / 2
packed_lane k = omega arith

packed_below : (k : ℕ) → k < 32 → packed k < 32
packed_below k l = omega (arith, l)

-- lanes that are lit, read in the order of the pixels
pub in_order : (lanes even odd first second : List ℕ)
    → ((q : ℕ) → q < 32 → get_or lanes q 0 ≡ lowered (get_or (slice_index_or (even ∷ odd ∷ []) (q / 8 % 2) []) (8 * (q / 16) + q % 8) 0) (get_or (slice_index_or (first ∷ second ∷ []) (q / 8 % 2) []) (8 * (q / 16) + q % 8) 0))
    → (y : ℕ → ℕ) → ((k : ℕ) → k < 32 → turn_of (even ∷ odd ∷ []) k ≡ y k) → (k : ℕ) → k < 32 → get_or lanes (packed k) 0 ≡ lowered (y k) (turn_of (first ∷ second ∷ []) k)
in_order lanes even odd first second h y is k l =
    h (packed k) (packed_below k l)
    ∙ ap (λ t. lowered (get_or (slice_index_or (even ∷ odd ∷ []) t []) (8 * (packed k / 16) + packed k % 8) 0) (get_or (slice_index_or (first ∷ second ∷ []) t []) (8 * (packed k / 16) + packed k % 8) 0)) (packed_turn k)
    ∙ ap (λ n. lowered (get_or (slice_index_or (even ∷ odd ∷ []) (k % 2) []) n 0) (get_or (slice_index_or (first ∷ second ∷ []) (k % 2) []) n 0)) (packed_lane k)
    ∙ ap (λ v. lowered v (turn_of (first ∷ second ∷ []) k)) (is k l)
