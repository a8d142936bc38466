-- Bytes of two blocks, each gathered.
use Rattle.std.proofs.Common.{◌≡◌, ℕ, zero, suc, ◌+◌, ◌-◌, ◌/◌, ◌%◌, ◌<◌, ◌++◌, Bool, true, false, cond, inl, inr, List, [], ◌∷◌, length, get_or, refl, arith, subst, sym, ◌∙◌, ap, ap₂}
use Rattle.std.specs.List.{range_with_len}
use Rattle.std.specs.Prelude.{slice_index, slice_index_or}
use Rattle.std.specs.Simd.Lanes.{pick_l}
use Rattle.std.proofs.lemmas.Bool.{cases_lt}
use Rattle.std.proofs.lemmas.List.{length-append, get_or_append_left, get_or-append-add}
use Rattle.std.proofs.lemmas.Simd.{pick_l_whole}
use Rattle.jr_idct.proofs.PairSums.{below_sixteen}

pub below_thirty_two : (P : ℕ → Type 0) → ((k : ℕ) → k < 16 → P k) → ((k : ℕ) → k < 16 → P (16 + k)) → (k : ℕ) → k < 32 → P k
below_thirty_two P low high k h =
    elim (cases_lt k 16) [
      | inl l ↦ low k l
      | inr o ↦ let e : 16 + (k - 16) ≡ k = omega (arith, o) in subst P e (high (k - 16) (omega (arith, o, h)))
    ]

abbrev pub taken : Bool → List ℕ
taken second = cond second
    (16 ∷ 17 ∷ 18 ∷ 19 ∷ 20 ∷ 21 ∷ 22 ∷ 23 ∷ 24 ∷ 25 ∷ 26 ∷ 27 ∷ 28 ∷ 29 ∷ 30 ∷ 31 ∷ 48 ∷ 49 ∷ 50 ∷ 51 ∷ 52 ∷ 53 ∷ 54 ∷ 55 ∷ 56 ∷ 57 ∷ 58 ∷ 59 ∷ 60 ∷ 61 ∷ 62 ∷ 63 ∷ [])
    (0 ∷ 1 ∷ 2 ∷ 3 ∷ 4 ∷ 5 ∷ 6 ∷ 7 ∷ 8 ∷ 9 ∷ 10 ∷ 11 ∷ 12 ∷ 13 ∷ 14 ∷ 15 ∷ 32 ∷ 33 ∷ 34 ∷ 35 ∷ 36 ∷ 37 ∷ 38 ∷ 39 ∷ 40 ∷ 41 ∷ 42 ∷ 43 ∷ 44 ∷ 45 ∷ 46 ∷ 47 ∷ [])

abbrev Halves : Bool → List ℕ → List ℕ → Type 0
Halves s a b = (k : ℕ) → k < 32 → get_or (pick_l 0 (a ++ b) (taken s)) k 0 ≡ slice_index (slice_index_or (a ∷ b ∷ []) (k / 16) []) (k % 16 + cond s 16 0)

abbrev whole : List ℕ → List ℕ
whole a = pick_l 0 a (range_with_len 0 32)

of_whole : (s : Bool) (a b : List ℕ) → Halves s (whole a) (whole b)
of_whole true a b =
    below_thirty_two _
    (below_sixteen (λ k. get_or (pick_l 0 (whole a ++ whole b) (taken true)) k 0 ≡ slice_index (slice_index_or (whole a ∷ whole b ∷ []) (k / 16) []) (k % 16 + 16)) refl refl refl refl refl refl refl refl refl refl refl refl refl refl refl refl)
    (below_sixteen (λ k. get_or (pick_l 0 (whole a ++ whole b) (taken true)) (16 + k) 0 ≡ slice_index (slice_index_or (whole a ∷ whole b ∷ []) ((16 + k) / 16) []) ((16 + k) % 16 + 16)) refl refl refl refl refl refl refl refl refl refl refl refl refl refl refl refl)
of_whole false a b =
    below_thirty_two _
    (below_sixteen (λ k. get_or (pick_l 0 (whole a ++ whole b) (taken false)) k 0 ≡ slice_index (slice_index_or (whole a ∷ whole b ∷ []) (k / 16) []) (k % 16 + 0)) refl refl refl refl refl refl refl refl refl refl refl refl refl refl refl refl)
    (below_sixteen (λ k. get_or (pick_l 0 (whole a ++ whole b) (taken false)) (16 + k) 0 ≡ slice_index (slice_index_or (whole a ∷ whole b ∷ []) ((16 + k) / 16) []) ((16 + k) % 16 + 0)) refl refl refl refl refl refl refl refl refl refl refl refl refl refl refl refl)

pub half_taken : (s : Bool) (a b : List ℕ) → length a ≡ 32 → length b ≡ 32 → Halves s a b
half_taken s a b p q =
    subst (λ z. Halves s a z) (pick_l_whole 0 b 32 q) (subst (λ z. Halves s z (whole b)) (pick_l_whole 0 a 32 p) (of_whole s a b))

-- two vectors, one after the other
pub all_of : (u l : List ℕ) → length u ≡ 32 → length l ≡ 32 → pick_l 0 (u ++ l) (range_with_len 0 64) ≡ u ++ l
all_of u l p q = pick_l_whole 0 (u ++ l) 64 (length-append u l ∙ ap₂ (λ a b. a + b) p q)

first_two : (a b c d : List ℕ) (n : ℕ) → n < 2 → slice_index_or (a ∷ b ∷ []) n [] ≡ slice_index_or (a ∷ b ∷ c ∷ d ∷ []) n []
first_two a b c d zero h = refl
first_two a b c d (suc zero) h = refl
first_two a b c d (suc (suc n)) h = absurd (omega (arith, h))

pub gather : (s : Bool) (q0 q1 q2 q3 u l : List ℕ) → length u ≡ 32 → length l ≡ 32
    → ((k : ℕ) → k < 32 → get_or u k 0 ≡ slice_index (slice_index_or (q0 ∷ q1 ∷ []) (k / 16) []) (k % 16 + cond s 16 0))
    → ((k : ℕ) → k < 32 → get_or l k 0 ≡ slice_index (slice_index_or (q2 ∷ q3 ∷ []) (k / 16) []) (k % 16 + cond s 16 0))
    → (k : ℕ) → k < 64 → get_or (pick_l 0 (u ++ l) (range_with_len 0 64)) k 0 ≡ slice_index (slice_index_or (q0 ∷ q1 ∷ q2 ∷ q3 ∷ []) (k / 16) []) (k % 16 + cond s 16 0)
gather s q0 q1 q2 q3 u l p q upper lower k h =
    ap (λ v. get_or v k 0) (all_of u l p q)
    ∙ (elim (cases_lt k 32) [
      | inl a ↦
          get_or_append_left u l 0 k (omega (arith, a, p))
          ∙ upper k a
          ∙ ap (λ v. slice_index v (k % 16 + cond s 16 0)) (first_two q0 q1 q2 q3 (k / 16) (omega (arith, a)))
      | inr o ↦
          let j = k - 32 in
          let there : length u + j ≡ k = omega (arith, o, p) in
          let e : k / 16 ≡ suc (suc (j / 16)) = omega (arith, o) in
          let f : j % 16 ≡ k % 16 = omega (arith, o) in
          ap (λ i. get_or (u ++ l) i 0) (sym there) ∙ get_or-append-add u l j 0
          ∙ lower j (omega (arith, o, h))
          ∙ rw (f, e) refl
    ])
