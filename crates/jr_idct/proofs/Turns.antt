-- Eight rows of sixteen lanes, whose halves are turned each.
use Rattle.std.proofs.Common.{◌≡◌, ℕ, ◌+◌, ◌*◌, ◌/◌, ◌%◌, ◌<◌, ◌++◌, ℤ, pos, true, false, List, [], ◌∷◌, Bool, length, refl, subst}
use Rattle.std.specs.List.{range_with_len}
use Rattle.std.specs.Simd.Lanes.{pick_l}
use Rattle.std.proofs.lemmas.Simd.{pick_l_whole}
use Rattle.jr_idct.specs.Lanes.{doubles, lane, quads, word_lanes}
use Rattle.jr_idct.proofs.PairSums.{below_sixteen}
use Rattle.jr_idct.proofs.Passes.{below_eight}

abbrev pub by : (Bool → List ℕ) → Bool → List ℤ → List ℤ → List ℤ
by f u a b = pick_l (pos 0) (a ++ b) (f u)

abbrev pub turned_rows : (y0 y1 y2 y3 y4 y5 y6 y7 : List ℤ) → List (List ℤ)
turned_rows y0 y1 y2 y3 y4 y5 y6 y7 =
    (by quads false (by doubles false (by word_lanes false y0 y1) (by word_lanes false y2 y3)) (by doubles false (by word_lanes false y4 y5) (by word_lanes false y6 y7)))
    ∷ (by quads true (by doubles false (by word_lanes false y0 y1) (by word_lanes false y2 y3)) (by doubles false (by word_lanes false y4 y5) (by word_lanes false y6 y7)))
    ∷ (by quads false (by doubles true (by word_lanes false y0 y1) (by word_lanes false y2 y3)) (by doubles true (by word_lanes false y4 y5) (by word_lanes false y6 y7)))
    ∷ (by quads true (by doubles true (by word_lanes false y0 y1) (by word_lanes false y2 y3)) (by doubles true (by word_lanes false y4 y5) (by word_lanes false y6 y7)))
    ∷ (by quads false (by doubles false (by word_lanes true y0 y1) (by word_lanes true y2 y3)) (by doubles false (by word_lanes true y4 y5) (by word_lanes true y6 y7)))
    ∷ (by quads true (by doubles false (by word_lanes true y0 y1) (by word_lanes true y2 y3)) (by doubles false (by word_lanes true y4 y5) (by word_lanes true y6 y7)))
    ∷ (by quads false (by doubles true (by word_lanes true y0 y1) (by word_lanes true y2 y3)) (by doubles true (by word_lanes true y4 y5) (by word_lanes true y6 y7)))
    ∷ (by quads true (by doubles true (by word_lanes true y0 y1) (by word_lanes true y2 y3)) (by doubles true (by word_lanes true y4 y5) (by word_lanes true y6 y7)))
    ∷ []

abbrev whole : List ℤ → List ℤ
whole y = pick_l (pos 0) y (range_with_len 0 16)

abbrev Turns : (y0 y1 y2 y3 y4 y5 y6 y7 : List ℤ) → Type 0
Turns y0 y1 y2 y3 y4 y5 y6 y7 = (i p : ℕ) → i < 8 → p < 16 → lane (turned_rows y0 y1 y2 y3 y4 y5 y6 y7) i p ≡ lane (y0 ∷ y1 ∷ y2 ∷ y3 ∷ y4 ∷ y5 ∷ y6 ∷ y7 ∷ []) (p % 8) (8 * (p / 8) + i)

of_whole : (y0 y1 y2 y3 y4 y5 y6 y7 : List ℤ) → Turns (whole y0) (whole y1) (whole y2) (whole y3) (whole y4) (whole y5) (whole y6) (whole y7)
of_whole y0 y1 y2 y3 y4 y5 y6 y7 i p h g =
    below_eight (λ i. (p : ℕ) → p < 16 → lane (turned_rows (whole y0) (whole y1) (whole y2) (whole y3) (whole y4) (whole y5) (whole y6) (whole y7)) i p ≡ lane (whole y0 ∷ whole y1 ∷ whole y2 ∷ whole y3 ∷ whole y4 ∷ whole y5 ∷ whole y6 ∷ whole y7 ∷ []) (p % 8) (8 * (p / 8) + i))
    (below_sixteen (λ p. lane (turned_rows (whole y0) (whole y1) (whole y2) (whole y3) (whole y4) (whole y5) (whole y6) (whole y7)) 0 p ≡ lane (whole y0 ∷ whole y1 ∷ whole y2 ∷ whole y3 ∷ whole y4 ∷ whole y5 ∷ whole y6 ∷ whole y7 ∷ []) (p % 8) (8 * (p / 8) + 0)) refl refl refl refl refl refl refl refl refl refl refl refl refl refl refl refl)
    (below_sixteen (λ p. lane (turned_rows (whole y0) (whole y1) (whole y2) (whole y3) (whole y4) (whole y5) (whole y6) (whole y7)) 1 p ≡ lane (whole y0 ∷ whole y1 ∷ whole y2 ∷ whole y3 ∷ whole y4 ∷ whole y5 ∷ whole y6 ∷ whole y7 ∷ []) (p % 8) (8 * (p / 8) + 1)) refl refl refl refl refl refl refl refl refl refl refl refl refl refl refl refl)
    (below_sixteen (λ p. lane (turned_rows (whole y0) (whole y1) (whole y2) (whole y3) (whole y4) (whole y5) (whole y6) (whole y7)) 2 p ≡ lane (whole y0 ∷ whole y1 ∷ whole y2 ∷ whole y3 ∷ whole y4 ∷ whole y5 ∷ whole y6 ∷ whole y7 ∷ []) (p % 8) (8 * (p / 8) + 2)) refl refl refl refl refl refl refl refl refl refl refl refl refl refl refl refl)
    (below_sixteen (λ p. lane (turned_rows (whole y0) (whole y1) (whole y2) (whole y3) (whole y4) (whole y5) (whole y6) (whole y7)) 3 p ≡ lane (whole y0 ∷ whole y1 ∷ whole y2 ∷ whole y3 ∷ whole y4 ∷ whole y5 ∷ whole y6 ∷ whole y7 ∷ []) (p % 8) (8 * (p / 8) + 3)) refl refl refl refl refl refl refl refl refl refl refl refl refl refl refl refl)
    (below_sixteen (λ p. lane (turned_rows (whole y0) (whole y1) (whole y2) (whole y3) (whole y4) (whole y5) (whole y6) (whole y7)) 4 p ≡ lane (whole y0 ∷ whole y1 ∷ whole y2 ∷ whole y3 ∷ whole y4 ∷ whole y5 ∷ whole y6 ∷ whole y7 ∷ []) (p % 8) (8 * (p / 8) + 4)) refl refl refl refl refl refl refl refl refl refl refl refl refl refl refl refl)
    (below_sixteen (λ p. lane (turned_rows (whole y0) (whole y1) (whole y2) (whole y3) (whole y4) (whole y5) (whole y6) (whole y7)) 5 p ≡ lane (whole y0 ∷ whole y1 ∷ whole y2 ∷ whole y3 ∷ whole y4 ∷ whole y5 ∷ whole y6 ∷ whole y7 ∷ []) (p % 8) (8 * (p / 8) + 5)) refl refl refl refl refl refl refl refl refl refl refl refl refl refl refl refl)
    (below_sixteen (λ p. lane (turned_rows (whole y0) (whole y1) (whole y2) (whole y3) (whole y4) (whole y5) (whole y6) (whole y7)) 6 p ≡ lane (whole y0 ∷ whole y1 ∷ whole y2 ∷ whole y3 ∷ whole y4 ∷ whole y5 ∷ whole y6 ∷ whole y7 ∷ []) (p % 8) (8 * (p / 8) + 6)) refl refl refl refl refl refl refl refl refl refl refl refl refl refl refl refl)
    (below_sixteen (λ p. lane (turned_rows (whole y0) (whole y1) (whole y2) (whole y3) (whole y4) (whole y5) (whole y6) (whole y7)) 7 p ≡ lane (whole y0 ∷ whole y1 ∷ whole y2 ∷ whole y3 ∷ whole y4 ∷ whole y5 ∷ whole y6 ∷ whole y7 ∷ []) (p % 8) (8 * (p / 8) + 7)) refl refl refl refl refl refl refl refl refl refl refl refl refl refl refl refl)
    i h p g

pub turns : (y0 y1 y2 y3 y4 y5 y6 y7 : List ℤ) → length y0 ≡ 16 → length y1 ≡ 16 → length y2 ≡ 16 → length y3 ≡ 16 → length y4 ≡ 16 → length y5 ≡ 16 → length y6 ≡ 16 → length y7 ≡ 16 → Turns y0 y1 y2 y3 y4 y5 y6 y7
turns y0 y1 y2 y3 y4 y5 y6 y7 l0 l1 l2 l3 l4 l5 l6 l7 =
    let s0 : Turns y0 (whole y1) (whole y2) (whole y3) (whole y4) (whole y5) (whole y6) (whole y7) = subst (λ z. Turns z (whole y1) (whole y2) (whole y3) (whole y4) (whole y5) (whole y6) (whole y7)) (pick_l_whole (pos 0) y0 16 l0) (of_whole y0 y1 y2 y3 y4 y5 y6 y7) in
    let s1 : Turns y0 y1 (whole y2) (whole y3) (whole y4) (whole y5) (whole y6) (whole y7) = subst (λ z. Turns y0 z (whole y2) (whole y3) (whole y4) (whole y5) (whole y6) (whole y7)) (pick_l_whole (pos 0) y1 16 l1) (s0) in
    let s2 : Turns y0 y1 y2 (whole y3) (whole y4) (whole y5) (whole y6) (whole y7) = subst (λ z. Turns y0 y1 z (whole y3) (whole y4) (whole y5) (whole y6) (whole y7)) (pick_l_whole (pos 0) y2 16 l2) (s1) in
    let s3 : Turns y0 y1 y2 y3 (whole y4) (whole y5) (whole y6) (whole y7) = subst (λ z. Turns y0 y1 y2 z (whole y4) (whole y5) (whole y6) (whole y7)) (pick_l_whole (pos 0) y3 16 l3) (s2) in
    let s4 : Turns y0 y1 y2 y3 y4 (whole y5) (whole y6) (whole y7) = subst (λ z. Turns y0 y1 y2 y3 z (whole y5) (whole y6) (whole y7)) (pick_l_whole (pos 0) y4 16 l4) (s3) in
    let s5 : Turns y0 y1 y2 y3 y4 y5 (whole y6) (whole y7) = subst (λ z. Turns y0 y1 y2 y3 y4 z (whole y6) (whole y7)) (pick_l_whole (pos 0) y5 16 l5) (s4) in
    let s6 : Turns y0 y1 y2 y3 y4 y5 y6 (whole y7) = subst (λ z. Turns y0 y1 y2 y3 y4 y5 z (whole y7)) (pick_l_whole (pos 0) y6 16 l6) (s5) in
    let s7 : Turns y0 y1 y2 y3 y4 y5 y6 y7 = subst (λ z. Turns y0 y1 y2 y3 y4 y5 y6 z) (pick_l_whole (pos 0) y7 16 l7) (s6) in
    s7
