-- Two passes in lanes over blocks that are zero in rows and columns 4 to 7.
use Rattle.std.proofs.Common.{◌≡◌, ℕ, ◌+◌, ◌-◌, ◌*◌, ◌/◌, ◌%◌, ◌^◌, ◌<◌, ◌≤◌, pos, ◌+ℤ◌, ℤ, List, [], ◌∷◌, arith, ap, refl, sym, ◌∙◌, lit<, replicate, ◌⊎◌, inl, inr}
use Rattle.std.proofs.lemmas.Bool.{cases_lt}
use Rattle.std.proofs.lemmas.List.{get_or-replicate}
use Rattle.jr_base.specs.declared.quantisers.TheConstants.{MAX_PRODUCT}
use Rattle.jr_idct.specs.Lanes.{lane, IsShort}
use Rattle.jr_idct.specs.Matrix.{at, floor_div, pass, row_sum, IsWithin}
use Rattle.jr_idct.specs.Transform.{column_pass, IsLow}
use Rattle.jr_idct.proofs.Chain.{chain, first_short, second_short}
use Rattle.jr_idct.proofs.Passes.{below_eight, sum_same}

-- sixteen lanes of zeros
abbrev pub zeros : List ℤ
zeros = replicate 16 (pos 0)

is_zero : (p : ℕ) → p < 16 → at zeros p ≡ pos 0
is_zero p h = get_or-replicate 16 p (pos 0) (pos 0) h

-- a sum of zeros
zero_sum : (v : ℕ → ℤ) → ((k : ℕ) → k < 8 → v k ≡ pos 0) → (i : ℕ) → i < 8 → row_sum i v ≡ pos 0
zero_sum v all i h =
    sum_same v (λ _. pos 0) i all ∙ below_eight (λ i. row_sum i (λ _. pos 0) ≡ pos 0) refl refl refl refl refl refl refl refl i h

module _ (x0 x1 x2 x3 : List ℤ)
    (small : (k p : ℕ) → k < 8 → p < 16 → IsWithin MAX_PRODUCT (lane (x0 ∷ x1 ∷ x2 ∷ x3 ∷ []) k p))
    (low : (k p : ℕ) → k < 8 → p < 16 → 4 ≤ p % 8 → lane (x0 ∷ x1 ∷ x2 ∷ x3 ∷ []) k p ≡ pos 0) where
  -- rows 4 to 7 are zeros, whether they are left out or written
  filled : (k p : ℕ) → k < 8 → p < 16 → lane (x0 ∷ x1 ∷ x2 ∷ x3 ∷ zeros ∷ zeros ∷ zeros ∷ zeros ∷ []) k p ≡ lane (x0 ∷ x1 ∷ x2 ∷ x3 ∷ []) k p
  filled k p h g =
      let z = is_zero p g in
      below_eight (λ k. lane (x0 ∷ x1 ∷ x2 ∷ x3 ∷ zeros ∷ zeros ∷ zeros ∷ zeros ∷ []) k p ≡ lane (x0 ∷ x1 ∷ x2 ∷ x3 ∷ []) k p) refl refl refl refl z z z z k h

  small_filled : (k p : ℕ) → k < 8 → p < 16 → IsWithin MAX_PRODUCT (lane (x0 ∷ x1 ∷ x2 ∷ x3 ∷ zeros ∷ zeros ∷ zeros ∷ zeros ∷ []) k p)
  small_filled k p h g = rw (filled k p h g) (small k p h g)

  pub low_first_short : (i p : ℕ) → i < 8 → p < 16 → IsShort 11 (row_sum i (λ k. lane (x0 ∷ x1 ∷ x2 ∷ x3 ∷ zeros ∷ zeros ∷ zeros ∷ zeros ∷ []) k p) +ℤ pos 1024)
  low_first_short = first_short (x0 ∷ x1 ∷ x2 ∷ x3 ∷ zeros ∷ zeros ∷ zeros ∷ zeros ∷ []) small_filled

  module _ (y : List (List ℤ)) (z0 z1 z2 z3 z4 z5 z6 z7 : List ℤ)
      (first : (i p : ℕ) → i < 8 → p < 16 → lane y i p ≡ floor_div (row_sum i (λ k. lane (x0 ∷ x1 ∷ x2 ∷ x3 ∷ zeros ∷ zeros ∷ zeros ∷ zeros ∷ []) k p) +ℤ pos 1024) (2 ^ 11))
      (turned : (i p : ℕ) → i < 8 → p < 16 → lane (z0 ∷ z1 ∷ z2 ∷ z3 ∷ z4 ∷ z5 ∷ z6 ∷ z7 ∷ []) i p ≡ lane y (p % 8) (8 * (p / 8) + i)) where
    -- the first pass makes zeros of columns of zeros
    rest_zero : (i p : ℕ) → 4 ≤ i → i < 8 → p < 16 → lane (z0 ∷ z1 ∷ z2 ∷ z3 ∷ z4 ∷ z5 ∷ z6 ∷ z7 ∷ []) i p ≡ pos 0
    rest_zero i p l h g =
        let q = 8 * (p / 8) + i in
        let b : q < 16 = omega (arith, h, g) in
        let r : 4 ≤ q % 8 = omega (arith, h, l) in
        let s = zero_sum (λ k. lane (x0 ∷ x1 ∷ x2 ∷ x3 ∷ zeros ∷ zeros ∷ zeros ∷ zeros ∷ []) k q) (λ k d. filled k q d b ∙ low k q d b r) (p % 8) (omega arith) in
        turned i p h g ∙ first (p % 8) q (omega arith) b ∙ ap (λ s. floor_div (s +ℤ pos 1024) (2 ^ 11)) s

    -- so that zeros may replace rows 4 to 7 before the second
    replaced : (p : ℕ) → p < 16 → (k : ℕ) → k < 8 → lane (z0 ∷ z1 ∷ z2 ∷ z3 ∷ zeros ∷ zeros ∷ zeros ∷ zeros ∷ []) k p ≡ lane (z0 ∷ z1 ∷ z2 ∷ z3 ∷ z4 ∷ z5 ∷ z6 ∷ z7 ∷ []) k p
    replaced p g =
        let e = is_zero p g in
        below_eight (λ k. lane (z0 ∷ z1 ∷ z2 ∷ z3 ∷ zeros ∷ zeros ∷ zeros ∷ zeros ∷ []) k p ≡ lane (z0 ∷ z1 ∷ z2 ∷ z3 ∷ z4 ∷ z5 ∷ z6 ∷ z7 ∷ []) k p)
        refl refl refl refl
        (e ∙ sym (rest_zero 4 p (omega arith) (lit< tt) g))
        (e ∙ sym (rest_zero 5 p (omega arith) (lit< tt) g))
        (e ∙ sym (rest_zero 6 p (omega arith) (lit< tt) g))
        (e ∙ sym (rest_zero 7 p (omega arith) (lit< tt) g))

    small_replaced : (k p : ℕ) → k < 8 → p < 16 → IsWithin 32767 (lane (z0 ∷ z1 ∷ z2 ∷ z3 ∷ zeros ∷ zeros ∷ zeros ∷ zeros ∷ []) k p)
    small_replaced k p h g =
        rw (replaced p g k h ∙ turned k p h g ∙ first (p % 8) (8 * (p / 8) + k) (omega arith) (omega (arith, h, g)))
        (low_first_short (p % 8) (8 * (p / 8) + k) (omega arith) (omega (arith, h, g))).1

    pub low_second_short : (i p : ℕ) → i < 8 → p < 16 → IsShort 18 (row_sum i (λ k. lane (z0 ∷ z1 ∷ z2 ∷ z3 ∷ zeros ∷ zeros ∷ zeros ∷ zeros ∷ []) k p) +ℤ pos 33685504)
    low_second_short = second_short (z0 ∷ z1 ∷ z2 ∷ z3 ∷ zeros ∷ zeros ∷ zeros ∷ zeros ∷ []) small_replaced

    pub low_chain : (w : List (List ℤ)) → ((i p : ℕ) → i < 8 → p < 16 → lane w i p ≡ floor_div (row_sum i (λ k. lane (z0 ∷ z1 ∷ z2 ∷ z3 ∷ zeros ∷ zeros ∷ zeros ∷ zeros ∷ []) k p) +ℤ pos 33685504) (2 ^ 18))
        → (place : ℕ → ℕ) → ((i : ℕ) → i < 8 → place i < 16) → ((i : ℕ) → i < 8 → place i % 8 ≡ i) → ((i k : ℕ) → i < 8 → k < 8 → 8 * (place i / 8) + k ≡ place k)
        → (v : ℕ → ℤ) → ((j k : ℕ) → j < 8 → k < 8 → lane (x0 ∷ x1 ∷ x2 ∷ x3 ∷ []) j (place k) ≡ v (8 * j + k))
        → (r c : ℕ) → r < 8 → c < 8 → lane w c (place r) ≡ pass 18 (λ k. column_pass v k r) c +ℤ pos 128
    low_chain w second place below column block v is_x =
        chain (x0 ∷ x1 ∷ x2 ∷ x3 ∷ zeros ∷ zeros ∷ zeros ∷ zeros ∷ []) y (z0 ∷ z1 ∷ z2 ∷ z3 ∷ z4 ∷ z5 ∷ z6 ∷ z7 ∷ []) w first turned
        (λ i p h g.
        second i p h g
        ∙ ap (λ s. floor_div (s +ℤ pos 33685504) (2 ^ 18)) (sum_same (λ k. lane (z0 ∷ z1 ∷ z2 ∷ z3 ∷ zeros ∷ zeros ∷ zeros ∷ zeros ∷ []) k p) (λ k. lane (z0 ∷ z1 ∷ z2 ∷ z3 ∷ z4 ∷ z5 ∷ z6 ∷ z7 ∷ []) k p) i (λ k d. replaced p g k d)))
        place below column block v
        (λ j k h g. filled j (place k) h (below k g) ∙ is_x j k h g)

-- rows 0 to 3 are all of two low blocks side by side
module _ (x0 x1 x2 x3 x4 x5 x6 x7 : List ℤ) (a b : ℕ → ℤ)
    (is_a : (r k : ℕ) → r < 8 → k < 8 → lane (x0 ∷ x1 ∷ x2 ∷ x3 ∷ x4 ∷ x5 ∷ x6 ∷ x7 ∷ []) r k ≡ a (8 * r + k))
    (is_b : (r k : ℕ) → r < 8 → k < 8 → lane (x0 ∷ x1 ∷ x2 ∷ x3 ∷ x4 ∷ x5 ∷ x6 ∷ x7 ∷ []) r (8 + k) ≡ b (8 * r + k))
    (low_a : IsLow a) (low_b : IsLow b) where
  zero_outside : (k p : ℕ) → k < 8 → p < 16 → (4 ≤ k) ⊎ (4 ≤ p % 8) → lane (x0 ∷ x1 ∷ x2 ∷ x3 ∷ x4 ∷ x5 ∷ x6 ∷ x7 ∷ []) k p ≡ pos 0
  zero_outside k p h g (inl l) =
      elim (cases_lt p 8) [
        | inl s ↦ is_a k p h s ∙ low_a.0 (8 * k + p) (omega (arith, l)) (omega (arith, h, s))
        | inr s ↦
            let e : p ≡ 8 + (p - 8) = omega (arith, s) in
            ap (lane (x0 ∷ x1 ∷ x2 ∷ x3 ∷ x4 ∷ x5 ∷ x6 ∷ x7 ∷ []) k) e ∙ is_b k (p - 8) h (omega (arith, g, s)) ∙ low_b.0 (8 * k + (p - 8)) (omega (arith, l)) (omega (arith, h, g, s))
      ]
  zero_outside k p h g (inr l) =
      elim (cases_lt p 8) [
        | inl s ↦ is_a k p h s ∙ low_a.1 (8 * k + p) (omega (arith, h, s)) (omega (arith, l, s))
        | inr s ↦
            let e : p ≡ 8 + (p - 8) = omega (arith, s) in
            ap (lane (x0 ∷ x1 ∷ x2 ∷ x3 ∷ x4 ∷ x5 ∷ x6 ∷ x7 ∷ []) k) e ∙ is_b k (p - 8) h (omega (arith, g, s)) ∙ low_b.1 (8 * k + (p - 8)) (omega (arith, h, g, s)) (omega (arith, l, g, s))
      ]

  four : (k p : ℕ) → k < 8 → p < 16 → lane (x0 ∷ x1 ∷ x2 ∷ x3 ∷ []) k p ≡ lane (x0 ∷ x1 ∷ x2 ∷ x3 ∷ x4 ∷ x5 ∷ x6 ∷ x7 ∷ []) k p
  four k p h g =
      below_eight (λ k. lane (x0 ∷ x1 ∷ x2 ∷ x3 ∷ []) k p ≡ lane (x0 ∷ x1 ∷ x2 ∷ x3 ∷ x4 ∷ x5 ∷ x6 ∷ x7 ∷ []) k p) refl refl refl refl
      (sym (zero_outside 4 p (lit< tt) g (inl (omega arith))))
      (sym (zero_outside 5 p (lit< tt) g (inl (omega arith))))
      (sym (zero_outside 6 p (lit< tt) g (inl (omega arith))))
      (sym (zero_outside 7 p (lit< tt) g (inl (omega arith))))
      k h

  pub four_small : ((k p : ℕ) → k < 8 → p < 16 → IsWithin MAX_PRODUCT (lane (x0 ∷ x1 ∷ x2 ∷ x3 ∷ x4 ∷ x5 ∷ x6 ∷ x7 ∷ []) k p)) → (k p : ℕ) → k < 8 → p < 16 → IsWithin MAX_PRODUCT (lane (x0 ∷ x1 ∷ x2 ∷ x3 ∷ []) k p)
  four_small small k p h g = rw (four k p h g) (small k p h g)

  pub four_low : (k p : ℕ) → k < 8 → p < 16 → 4 ≤ p % 8 → lane (x0 ∷ x1 ∷ x2 ∷ x3 ∷ []) k p ≡ pos 0
  four_low k p h g l = four k p h g ∙ zero_outside k p h g (inr l)

  pub four_first : (j k : ℕ) → j < 8 → k < 8 → lane (x0 ∷ x1 ∷ x2 ∷ x3 ∷ []) j k ≡ a (8 * j + k)
  four_first j k h g = four j k h (omega (arith, g)) ∙ is_a j k h g

  pub four_second : (j k : ℕ) → j < 8 → k < 8 → lane (x0 ∷ x1 ∷ x2 ∷ x3 ∷ []) j (8 + k) ≡ b (8 * j + k)
  four_second j k h g = four j (8 + k) h (omega (arith, g)) ∙ is_b j k h g
