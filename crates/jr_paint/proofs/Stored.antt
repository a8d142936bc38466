-- What the three stores of 32 pixels write.
use Rattle.std.proofs.Common.{◌≡◌, ℕ, ◌+◌, ◌%◌, List, [], ◌∷◌, ◌++◌, get_or, map, refl, slice_index_or}
use Rattle.std.specs.List.{range_with_len}
use Rattle.std.specs.Simd.Lanes.{put_chunk, pick_l}
use Rattle.jr_paint.specs.Lines.{interleaving_of, spread}
use Rattle.jr_paint.proofs.Shuffled.{store_three}

-- the bytes of a colour at their positions
abbrev pub spread_of : ℕ → List ℕ → List ℕ
spread_of shift v = map (λ q. get_or v (spread shift q) 0) (range_with_len 0 32)

-- the bytes of each third position of three vectors
abbrev pub thirds_of : List ℕ → List ℕ → List ℕ → List ℕ
thirds_of a b c = map (λ q. get_or (slice_index_or (a ∷ b ∷ c ∷ []) (q % 16 % 3) []) q 0) (range_with_len 0 32)

-- the first half of one vector and the first of another, and so on
abbrev pub firsts : List ℕ
firsts = 0 ∷ 1 ∷ 2 ∷ 3 ∷ 4 ∷ 5 ∷ 6 ∷ 7 ∷ 8 ∷ 9 ∷ 10 ∷ 11 ∷ 12 ∷ 13 ∷ 14 ∷ 15 ∷ 32 ∷ 33 ∷ 34 ∷ 35 ∷ 36 ∷ 37 ∷ 38 ∷ 39 ∷ 40 ∷ 41 ∷ 42 ∷ 43 ∷ 44 ∷ 45 ∷ 46 ∷ 47 ∷ []

abbrev pub first_and_last : List ℕ
first_and_last = 0 ∷ 1 ∷ 2 ∷ 3 ∷ 4 ∷ 5 ∷ 6 ∷ 7 ∷ 8 ∷ 9 ∷ 10 ∷ 11 ∷ 12 ∷ 13 ∷ 14 ∷ 15 ∷ 48 ∷ 49 ∷ 50 ∷ 51 ∷ 52 ∷ 53 ∷ 54 ∷ 55 ∷ 56 ∷ 57 ∷ 58 ∷ 59 ∷ 60 ∷ 61 ∷ 62 ∷ 63 ∷ []

abbrev pub lasts : List ℕ
lasts = 16 ∷ 17 ∷ 18 ∷ 19 ∷ 20 ∷ 21 ∷ 22 ∷ 23 ∷ 24 ∷ 25 ∷ 26 ∷ 27 ∷ 28 ∷ 29 ∷ 30 ∷ 31 ∷ 48 ∷ 49 ∷ 50 ∷ 51 ∷ 52 ∷ 53 ∷ 54 ∷ 55 ∷ 56 ∷ 57 ∷ 58 ∷ 59 ∷ 60 ∷ 61 ∷ 62 ∷ 63 ∷ []

pub stored : (i : ℕ) (out red green blue p q r first second third : List ℕ) → p ≡ spread_of 0 red → q ≡ spread_of 1 green → r ≡ spread_of 2 blue → first ≡ thirds_of p q r → second ≡ thirds_of q r p → third ≡ thirds_of r p q
    → put_chunk (i + 64) (put_chunk (i + 32) (put_chunk i out (pick_l 0 (first ++ second) firsts)) (pick_l 0 (third ++ first) first_and_last)) (pick_l 0 (second ++ third) lasts) ≡ put_chunk i out (interleaving_of red green blue 32)
stored i out red green blue p q r first second third e f g h j k = rw (h, j, k, e, f, g) (store_three i out _ _ _ refl refl)
