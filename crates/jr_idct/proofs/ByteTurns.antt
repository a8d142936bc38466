-- Four vectors of 32 bytes, two columns of each of two blocks, turned to rows.
use Rattle.std.proofs.Common.{◌≡◌, ℕ, ◌+◌, ◌*◌, ◌/◌, ◌%◌, ◌<◌, ◌++◌, true, false, List, [], ◌∷◌, Bool, length, refl, subst}
use Rattle.std.specs.List.{range_with_len}
use Rattle.std.specs.Prelude.{slice_index, slice_index_or}
use Rattle.std.specs.Simd.Lanes.{pick_l}
use Rattle.std.proofs.lemmas.Simd.{pick_l_whole}
use Rattle.jr_idct.specs.Lanes.{bytes, fours}
use Rattle.jr_idct.proofs.Gathers.{below_thirty_two}
use Rattle.jr_idct.proofs.PairSums.{below_sixteen}
use Rattle.jr_idct.proofs.Passes.{below_four}

abbrev pub by : (Bool → List ℕ) → Bool → List ℕ → List ℕ → List ℕ
by f u a b = pick_l 0 (a ++ b) (f u)

abbrev pub turned_rows : (x0 x1 x2 x3 : List ℕ) → List (List ℕ)
turned_rows x0 x1 x2 x3 =
    (by fours false (by bytes false (by bytes false x0 x2) (by bytes false x1 x3)) (by bytes false (by bytes true x0 x2) (by bytes true x1 x3)))
    ∷ (by fours true (by bytes false (by bytes false x0 x2) (by bytes false x1 x3)) (by bytes false (by bytes true x0 x2) (by bytes true x1 x3)))
    ∷ (by fours false (by bytes true (by bytes false x0 x2) (by bytes false x1 x3)) (by bytes true (by bytes true x0 x2) (by bytes true x1 x3)))
    ∷ (by fours true (by bytes true (by bytes false x0 x2) (by bytes false x1 x3)) (by bytes true (by bytes true x0 x2) (by bytes true x1 x3)))
    ∷ []

abbrev whole : List ℕ → List ℕ
whole x = pick_l 0 x (range_with_len 0 32)

abbrev ByteTurns : (x0 x1 x2 x3 : List ℕ) → Type 0
ByteTurns x0 x1 x2 x3 = (m n : ℕ) → m < 4 → n < 32 → slice_index (slice_index_or (turned_rows x0 x1 x2 x3) m []) n ≡ slice_index (slice_index_or (x0 ∷ x1 ∷ x2 ∷ x3 ∷ []) (n % 4) []) (16 * (n / 16) + 8 * (n % 8 / 4) + (2 * m + n % 16 / 8))

of_whole : (x0 x1 x2 x3 : List ℕ) → ByteTurns (whole x0) (whole x1) (whole x2) (whole x3)
of_whole x0 x1 x2 x3 m n h g =
    below_four (λ m. (n : ℕ) → n < 32 → slice_index (slice_index_or (turned_rows (whole x0) (whole x1) (whole x2) (whole x3)) m []) n ≡ slice_index (slice_index_or (whole x0 ∷ whole x1 ∷ whole x2 ∷ whole x3 ∷ []) (n % 4) []) (16 * (n / 16) + 8 * (n % 8 / 4) + (2 * m + n % 16 / 8)))
    (below_thirty_two _
    (below_sixteen (λ k. slice_index (slice_index_or (turned_rows (whole x0) (whole x1) (whole x2) (whole x3)) 0 []) k ≡ slice_index (slice_index_or (whole x0 ∷ whole x1 ∷ whole x2 ∷ whole x3 ∷ []) (k % 4) []) (16 * (k / 16) + 8 * (k % 8 / 4) + (2 * 0 + k % 16 / 8))) refl refl refl refl refl refl refl refl refl refl refl refl refl refl refl refl)
    (below_sixteen (λ k. slice_index (slice_index_or (turned_rows (whole x0) (whole x1) (whole x2) (whole x3)) 0 []) (16 + k) ≡ slice_index (slice_index_or (whole x0 ∷ whole x1 ∷ whole x2 ∷ whole x3 ∷ []) ((16 + k) % 4) []) (16 * ((16 + k) / 16) + 8 * ((16 + k) % 8 / 4) + (2 * 0 + (16 + k) % 16 / 8))) refl refl refl refl refl refl refl refl refl refl refl refl refl refl refl refl))
    (below_thirty_two _
    (below_sixteen (λ k. slice_index (slice_index_or (turned_rows (whole x0) (whole x1) (whole x2) (whole x3)) 1 []) k ≡ slice_index (slice_index_or (whole x0 ∷ whole x1 ∷ whole x2 ∷ whole x3 ∷ []) (k % 4) []) (16 * (k / 16) + 8 * (k % 8 / 4) + (2 * 1 + k % 16 / 8))) refl refl refl refl refl refl refl refl refl refl refl refl refl refl refl refl)
    (below_sixteen (λ k. slice_index (slice_index_or (turned_rows (whole x0) (whole x1) (whole x2) (whole x3)) 1 []) (16 + k) ≡ slice_index (slice_index_or (whole x0 ∷ whole x1 ∷ whole x2 ∷ whole x3 ∷ []) ((16 + k) % 4) []) (16 * ((16 + k) / 16) + 8 * ((16 + k) % 8 / 4) + (2 * 1 + (16 + k) % 16 / 8))) refl refl refl refl refl refl refl refl refl refl refl refl refl refl refl refl))
    (below_thirty_two _
    (below_sixteen (λ k. slice_index (slice_index_or (turned_rows (whole x0) (whole x1) (whole x2) (whole x3)) 2 []) k ≡ slice_index (slice_index_or (whole x0 ∷ whole x1 ∷ whole x2 ∷ whole x3 ∷ []) (k % 4) []) (16 * (k / 16) + 8 * (k % 8 / 4) + (2 * 2 + k % 16 / 8))) refl refl refl refl refl refl refl refl refl refl refl refl refl refl refl refl)
    (below_sixteen (λ k. slice_index (slice_index_or (turned_rows (whole x0) (whole x1) (whole x2) (whole x3)) 2 []) (16 + k) ≡ slice_index (slice_index_or (whole x0 ∷ whole x1 ∷ whole x2 ∷ whole x3 ∷ []) ((16 + k) % 4) []) (16 * ((16 + k) / 16) + 8 * ((16 + k) % 8 / 4) + (2 * 2 + (16 + k) % 16 / 8))) refl refl refl refl refl refl refl refl refl refl refl refl refl refl refl refl))
    (below_thirty_two _
    (below_sixteen (λ k. slice_index (slice_index_or (turned_rows (whole x0) (whole x1) (whole x2) (whole x3)) 3 []) k ≡ slice_index (slice_index_or (whole x0 ∷ whole x1 ∷ whole x2 ∷ whole x3 ∷ []) (k % 4) []) (16 * (k / 16) + 8 * (k % 8 / 4) + (2 * 3 + k % 16 / 8))) refl refl refl refl refl refl refl refl refl refl refl refl refl refl refl refl)
    (below_sixteen (λ k. slice_index (slice_index_or (turned_rows (whole x0) (whole x1) (whole x2) (whole x3)) 3 []) (16 + k) ≡ slice_index (slice_index_or (whole x0 ∷ whole x1 ∷ whole x2 ∷ whole x3 ∷ []) ((16 + k) % 4) []) (16 * ((16 + k) / 16) + 8 * ((16 + k) % 8 / 4) + (2 * 3 + (16 + k) % 16 / 8))) refl refl refl refl refl refl refl refl refl refl refl refl refl refl refl refl))
    m h n g

pub byte_turns : (x0 x1 x2 x3 : List ℕ) → length x0 ≡ 32 → length x1 ≡ 32 → length x2 ≡ 32 → length x3 ≡ 32 → ByteTurns x0 x1 x2 x3
byte_turns x0 x1 x2 x3 l0 l1 l2 l3 =
    let s0 : ByteTurns x0 (whole x1) (whole x2) (whole x3) = subst (λ z. ByteTurns z (whole x1) (whole x2) (whole x3)) (pick_l_whole 0 x0 32 l0) (of_whole x0 x1 x2 x3) in
    let s1 : ByteTurns x0 x1 (whole x2) (whole x3) = subst (λ z. ByteTurns x0 z (whole x2) (whole x3)) (pick_l_whole 0 x1 32 l1) s0 in
    let s2 : ByteTurns x0 x1 x2 (whole x3) = subst (λ z. ByteTurns x0 x1 z (whole x3)) (pick_l_whole 0 x2 32 l2) s1 in
    let s3 : ByteTurns x0 x1 x2 x3 = subst (λ z. ByteTurns x0 x1 x2 z) (pick_l_whole 0 x3 32 l3) s2 in
    s3
