-- Green of sixteen pixels, from pairs of samples of both chrominances.
use Rattle.std.proofs.Common.{◌≡◌, ℕ, ◌+◌, ◌*◌, ◌<◌, List, [], ◌∷◌, ◌++◌, length, get_or, refl, sym, subst, ap, ◌∙◌, arith, lit<}
use Rattle.std.proofs.lemmas.List.{get_or_append_left, get_or-append_right}
use Rattle.std.specs.Simd.Lanes.{pick_l}
use Rattle.jr_paint.specs.Shades.{green_over_of, IsRaised}
use Rattle.jr_paint.proofs.EachLane.{below_sixteen}

-- lanes of both halves of two vectors by turns: of their lower parts, and of their upper ones
abbrev pub lows : List ℕ
lows = 0 ∷ 16 ∷ 1 ∷ 17 ∷ 2 ∷ 18 ∷ 3 ∷ 19 ∷ 8 ∷ 24 ∷ 9 ∷ 25 ∷ 10 ∷ 26 ∷ 11 ∷ 27 ∷ []

abbrev pub highs : List ℕ
highs = 4 ∷ 20 ∷ 5 ∷ 21 ∷ 6 ∷ 22 ∷ 7 ∷ 23 ∷ 12 ∷ 28 ∷ 13 ∷ 29 ∷ 14 ∷ 30 ∷ 15 ∷ 31 ∷ []

-- and back
abbrev pub order : List ℕ
order = 0 ∷ 1 ∷ 2 ∷ 3 ∷ 8 ∷ 9 ∷ 10 ∷ 11 ∷ 4 ∷ 5 ∷ 6 ∷ 7 ∷ 12 ∷ 13 ∷ 14 ∷ 15 ∷ []

-- lanes that are computed from pairs have the differences of green from luminance
abbrev pub AreGreen : List ℕ → List ℕ → Type 0
AreGreen pairs lanes = (j b r : ℕ) → j < 8 → b < 256 → r < 256 → get_or pairs (2 * j) 0 ≡ b + b → get_or pairs (2 * j + 1) 0 ≡ r + r → IsRaised (get_or lanes j 0) (green_over_of b r)

module _ (bs rs lower upper : List ℕ) (f g : ℕ → ℕ) (long_b : length bs ≡ 16) (long_l : length lower ≡ 8) (small_f : (k : ℕ) → k < 16 → f k < 256) (small_g : (k : ℕ) → k < 16 → g k < 256)
    (is_b : (k : ℕ) → k < 16 → get_or bs k 0 ≡ f k + f k) (is_r : (k : ℕ) → k < 16 → get_or rs k 0 ≡ g k + g k)
    (low : AreGreen (pick_l 0 (bs ++ rs) lows) lower) (high : AreGreen (pick_l 0 (bs ++ rs) highs) upper) where
  first : (k : ℕ) → k < 16 → get_or (bs ++ rs) k 0 ≡ f k + f k
  first k l = get_or_append_left bs rs 0 k (omega (arith, l, long_b)) ∙ is_b k l

  second : (k : ℕ) → k < 16 → get_or (bs ++ rs) (16 + k) 0 ≡ g k + g k
  second k l = get_or-append_right bs rs 16 (16 + k) 0 long_b (omega arith) ∙ ap (λ j. get_or rs j 0) (omega arith) ∙ is_r k l

  low_at : (j k : ℕ) → j < 8 → k < 16 → get_or (pick_l 0 (bs ++ rs) lows) (2 * j) 0 ≡ get_or (bs ++ rs) k 0 → get_or (pick_l 0 (bs ++ rs) lows) (2 * j + 1) 0 ≡ get_or (bs ++ rs) (16 + k) 0
      → IsRaised (get_or (lower ++ upper) j 0) (green_over_of (f k) (g k))
  low_at j k l m e h = subst (λ v. IsRaised v (green_over_of (f k) (g k))) (sym (get_or_append_left lower upper 0 j (omega (arith, l, long_l)))) (low j (f k) (g k) l (small_f k m) (small_g k m) (e ∙ first k m) (h ∙ second k m))

  high_at : (j k : ℕ) → j < 8 → k < 16 → get_or (pick_l 0 (bs ++ rs) highs) (2 * j) 0 ≡ get_or (bs ++ rs) k 0 → get_or (pick_l 0 (bs ++ rs) highs) (2 * j + 1) 0 ≡ get_or (bs ++ rs) (16 + k) 0
      → IsRaised (get_or (lower ++ upper) (8 + j) 0) (green_over_of (f k) (g k))
  high_at j k l m e h =
      let there : get_or (lower ++ upper) (8 + j) 0 ≡ get_or upper j 0 = get_or-append_right lower upper 8 (8 + j) 0 long_l (omega arith) ∙ ap (λ i. get_or upper i 0) (omega arith) in
      subst (λ v. IsRaised v (green_over_of (f k) (g k))) (sym there) (high j (f k) (g k) l (small_f k m) (small_g k m) (e ∙ first k m) (h ∙ second k m))

  pub green_lanes : (k : ℕ) → k < 16 → IsRaised (get_or (pick_l 0 (lower ++ upper) order) k 0) (green_over_of (f k) (g k))
  green_lanes =
      below_sixteen (λ k. IsRaised (get_or (pick_l 0 (lower ++ upper) order) k 0) (green_over_of (f k) (g k)))
      (low_at 0 0 (lit< tt) (lit< tt) refl refl) (low_at 1 1 (lit< tt) (lit< tt) refl refl) (low_at 2 2 (lit< tt) (lit< tt) refl refl) (low_at 3 3 (lit< tt) (lit< tt) refl refl)
      (high_at 0 4 (lit< tt) (lit< tt) refl refl) (high_at 1 5 (lit< tt) (lit< tt) refl refl) (high_at 2 6 (lit< tt) (lit< tt) refl refl) (high_at 3 7 (lit< tt) (lit< tt) refl refl)
      (low_at 4 8 (lit< tt) (lit< tt) refl refl) (low_at 5 9 (lit< tt) (lit< tt) refl refl) (low_at 6 10 (lit< tt) (lit< tt) refl refl) (low_at 7 11 (lit< tt) (lit< tt) refl refl)
      (high_at 4 12 (lit< tt) (lit< tt) refl refl) (high_at 5 13 (lit< tt) (lit< tt) refl refl) (high_at 6 14 (lit< tt) (lit< tt) refl refl) (high_at 7 15 (lit< tt) (lit< tt) refl refl)
