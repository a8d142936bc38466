-- Bytes of a row of a block from those of two columns of both.
use Rattle.std.proofs.Common.{◌≡◌, ℕ, zero, suc, ◌+◌, ◌*◌, ◌/◌, ◌%◌, ◌<◌, ℤ, Bool, true, false, cond, List, [], ◌∷◌, refl, arith, ap, ◌∙◌}
use Rattle.std.specs.Prelude.{slice_index, slice_index_or}
use Rattle.jr_idct.specs.Lanes.{lane}
use Rattle.jr_idct.specs.Transform.{byte_of}
use Rattle.jr_idct.proofs.Passes.{below_four}

-- the position of number r of a column of a block
abbrev pub place_in : Bool → ℕ → ℕ
place_in second r = cond second (8 + r) r

module _ (t0 t1 t2 t3 t4 t5 t6 t7 : List ℤ) where
  abbrev all : List (List ℤ)
  all = (t0 ∷ t1 ∷ t2 ∷ t3 ∷ t4 ∷ t5 ∷ t6 ∷ t7 ∷ [])

  below_two : (P : ℕ → Type 0) → P 0 → P 1 → (n : ℕ) → n < 2 → P n
  below_two P a b zero h = a
  below_two P a b (suc zero) h = b
  below_two P a b (suc (suc n)) h = absurd (omega (arith, h))

  two_of : (m : ℕ) → m < 4 → (n : ℕ) → n < 2 → (p : ℕ) → lane (slice_index_or all m [] ∷ slice_index_or all (4 + m) [] ∷ []) n p ≡ lane all (m + 4 * n) p
  two_of = below_four (λ m. (n : ℕ) → n < 2 → (p : ℕ) → lane (slice_index_or all m [] ∷ slice_index_or all (4 + m) [] ∷ []) n p ≡ lane all (m + 4 * n) p)
      (below_two _ (λ p. refl) (λ p. refl)) (below_two _ (λ p. refl) (λ p. refl)) (below_two _ (λ p. refl) (λ p. refl)) (below_two _ (λ p. refl) (λ p. refl))

pub byte_at_row : (s : Bool) (cs rs : List (List ℕ)) (t0 t1 t2 t3 t4 t5 t6 t7 : List ℤ)
    → ((m : ℕ) → m < 4 → (q : ℕ) → q < 32 → slice_index (slice_index_or cs m []) q ≡ byte_of (lane (slice_index_or (t0 ∷ t1 ∷ t2 ∷ t3 ∷ t4 ∷ t5 ∷ t6 ∷ t7 ∷ []) m [] ∷ slice_index_or (t0 ∷ t1 ∷ t2 ∷ t3 ∷ t4 ∷ t5 ∷ t6 ∷ t7 ∷ []) (4 + m) [] ∷ []) (q / 8 % 2) (8 * (q / 16) + q % 8)))
    → ((m n : ℕ) → m < 4 → n < 32 → slice_index (slice_index_or rs m []) n ≡ slice_index (slice_index_or cs (n % 4) []) (16 * (n / 16) + 8 * (n % 8 / 4) + (2 * m + n % 16 / 8)))
    → (r c : ℕ) → r < 8 → c < 8 → slice_index (slice_index_or rs ((8 * r + c) / 16) []) ((8 * r + c) % 16 + cond s 16 0) ≡ byte_of (lane (t0 ∷ t1 ∷ t2 ∷ t3 ∷ t4 ∷ t5 ∷ t6 ∷ t7 ∷ []) c (place_in s r))
byte_at_row s cs rs t0 t1 t2 t3 t4 t5 t6 t7 is_c is_r r c h g =
    let k = 8 * r + c in
    let n = k % 16 + cond s 16 0 in
    let j = 16 * (n / 16) + 8 * (n % 8 / 4) + (2 * (k / 16) + n % 16 / 8) in
    let b = below s (k % 16) (omega arith) in
    is_r (k / 16) n (omega (arith, h, g)) b
    ∙ is_c (n % 4) (omega arith) j (inside n (k / 16) b (omega (arith, h, g)))
    ∙ ap byte_of (two_of t0 t1 t2 t3 t4 t5 t6 t7 (n % 4) (omega arith) (j / 8 % 2) (omega arith) (8 * (j / 16) + j % 8) ∙ at_place s)
  where
    below : (s : Bool) (n : ℕ) → n < 16 → n + cond s 16 0 < 32
    below true n l = omega (arith, l)
    below false n l = omega (arith, l)

    inside : (n m : ℕ) → n < 32 → m < 4 → 16 * (n / 16) + 8 * (n % 8 / 4) + (2 * m + n % 16 / 8) < 32
    inside n m a b = omega (arith, a, b)

    at_place : (s : Bool) → lane (t0 ∷ t1 ∷ t2 ∷ t3 ∷ t4 ∷ t5 ∷ t6 ∷ t7 ∷ []) (((8 * r + c) % 16 + cond s 16 0) % 4 + 4 * ((16 * (((8 * r + c) % 16 + cond s 16 0) / 16) + 8 * (((8 * r + c) % 16 + cond s 16 0) % 8 / 4) + (2 * ((8 * r + c) / 16) + ((8 * r + c) % 16 + cond s 16 0) % 16 / 8)) / 8 % 2)) (8 * ((16 * (((8 * r + c) % 16 + cond s 16 0) / 16) + 8 * (((8 * r + c) % 16 + cond s 16 0) % 8 / 4) + (2 * ((8 * r + c) / 16) + ((8 * r + c) % 16 + cond s 16 0) % 16 / 8)) / 16) + (16 * (((8 * r + c) % 16 + cond s 16 0) / 16) + 8 * (((8 * r + c) % 16 + cond s 16 0) % 8 / 4) + (2 * ((8 * r + c) / 16) + ((8 * r + c) % 16 + cond s 16 0) % 16 / 8)) % 8) ≡ lane (t0 ∷ t1 ∷ t2 ∷ t3 ∷ t4 ∷ t5 ∷ t6 ∷ t7 ∷ []) c (place_in s r)
    at_place true =
        let j : (16 * (((8 * r + c) % 16 + 16) / 16) + 8 * (((8 * r + c) % 16 + 16) % 8 / 4) + (2 * ((8 * r + c) / 16) + ((8 * r + c) % 16 + 16) % 16 / 8)) ≡ 16 * 1 + (8 * (c / 4) + r) = omega (arith, h, g) in
        let e : ((8 * r + c) % 16 + 16) % 4 + 4 * ((16 * (((8 * r + c) % 16 + 16) / 16) + 8 * (((8 * r + c) % 16 + 16) % 8 / 4) + (2 * ((8 * r + c) / 16) + ((8 * r + c) % 16 + 16) % 16 / 8)) / 8 % 2) ≡ c = omega (arith, h, g, j) in
        let f : 8 * ((16 * (((8 * r + c) % 16 + 16) / 16) + 8 * (((8 * r + c) % 16 + 16) % 8 / 4) + (2 * ((8 * r + c) / 16) + ((8 * r + c) % 16 + 16) % 16 / 8)) / 16) + (16 * (((8 * r + c) % 16 + 16) / 16) + 8 * (((8 * r + c) % 16 + 16) % 8 / 4) + (2 * ((8 * r + c) / 16) + ((8 * r + c) % 16 + 16) % 16 / 8)) % 8 ≡ 8 + r = omega (arith, h, g, j) in
        λ i. lane (t0 ∷ t1 ∷ t2 ∷ t3 ∷ t4 ∷ t5 ∷ t6 ∷ t7 ∷ []) (e i) (f i)
    at_place false =
        let j : (16 * (((8 * r + c) % 16 + 0) / 16) + 8 * (((8 * r + c) % 16 + 0) % 8 / 4) + (2 * ((8 * r + c) / 16) + ((8 * r + c) % 16 + 0) % 16 / 8)) ≡ 8 * (c / 4) + r = omega (arith, h, g) in
        let e : ((8 * r + c) % 16 + 0) % 4 + 4 * ((16 * (((8 * r + c) % 16 + 0) / 16) + 8 * (((8 * r + c) % 16 + 0) % 8 / 4) + (2 * ((8 * r + c) / 16) + ((8 * r + c) % 16 + 0) % 16 / 8)) / 8 % 2) ≡ c = omega (arith, h, g, j) in
        let f : 8 * ((16 * (((8 * r + c) % 16 + 0) / 16) + 8 * (((8 * r + c) % 16 + 0) % 8 / 4) + (2 * ((8 * r + c) / 16) + ((8 * r + c) % 16 + 0) % 16 / 8)) / 16) + (16 * (((8 * r + c) % 16 + 0) / 16) + 8 * (((8 * r + c) % 16 + 0) % 8 / 4) + (2 * ((8 * r + c) / 16) + ((8 * r + c) % 16 + 0) % 16 / 8)) % 8 ≡ r = omega (arith, h, g, j) in
        λ i. lane (t0 ∷ t1 ∷ t2 ∷ t3 ∷ t4 ∷ t5 ∷ t6 ∷ t7 ∷ []) (e i) (f i)
