-- What the shuffles of lanes hold, and what three stores one after another write.
use Rattle.std.proofs.Common.{◌≡◌, ℕ, zero, suc, ◌+◌, List, [], ◌∷◌, ◌++◌, length, get_or, map, refl, ap, ◌∙◌, arith, subst}
use Rattle.std.specs.List.{range_with_len}
use Rattle.std.specs.Simd.Lanes.{put_chunk, pick_l}
use Rattle.std.proofs.lemmas.Simd.{pick_l_whole}
use Rattle.jr_paint.specs.Lines.{spread}

-- two stores, one right after the other, are one
pub store_chunks : (i m : ℕ) (xs a b : List ℕ) → m ≡ i + length a → put_chunk m (put_chunk i xs a) b ≡ put_chunk i xs (a ++ b)
store_chunks i m [] a b e = refl
store_chunks zero m (x ∷ xs) [] b e = let e' : m ≡ 0 = omega arith in rw e' refl
store_chunks zero m (x ∷ xs) (y ∷ a) b e =
    let e' : m ≡ suc (length a) = omega arith in
    rw e' (ap (λ z. y ∷ z) (store_chunks zero (length a) xs a b (omega arith)))
store_chunks (suc i) m (x ∷ xs) a b e =
    let e' : m ≡ suc (i + length a) = omega arith in
    rw e' (ap (λ z. x ∷ z) (store_chunks i (i + length a) xs a b refl))

-- three of them
pub store_three : (i : ℕ) (xs a b c : List ℕ) → length a ≡ 32 → length b ≡ 32 → put_chunk (i + 64) (put_chunk (i + 32) (put_chunk i xs a) b) c ≡ put_chunk i xs (a ++ (b ++ c))
store_three i xs a b c p q =
    store_chunks (i + 32) (i + 64) (put_chunk i xs a) b c (omega arith)
    ∙ store_chunks i (i + 32) xs a (b ++ c) (omega arith)

-- a predicate that holds for the n lanes of a vector holds for the vector
pub by_lanes : (n : ℕ) (P : List ℕ → Type 0) (v : List ℕ) → length v ≡ n → P (pick_l 0 v (range_with_len 0 n)) → P v
by_lanes n P v long h = subst P (pick_l_whole 0 v n long) h

-- of each three positions, the second one from another vector, and the third one from another
abbrev pub seconds : List ℕ
seconds = 0 ∷ 33 ∷ 2 ∷ 3 ∷ 36 ∷ 5 ∷ 6 ∷ 39 ∷ 8 ∷ 9 ∷ 42 ∷ 11 ∷ 12 ∷ 45 ∷ 14 ∷ 15 ∷ 16 ∷ 49 ∷ 18 ∷ 19 ∷ 52 ∷ 21 ∷ 22 ∷ 55 ∷ 24 ∷ 25 ∷ 58 ∷ 27 ∷ 28 ∷ 61 ∷ 30 ∷ 31 ∷ []

abbrev pub thirds : List ℕ
thirds = 0 ∷ 1 ∷ 34 ∷ 3 ∷ 4 ∷ 37 ∷ 6 ∷ 7 ∷ 40 ∷ 9 ∷ 10 ∷ 43 ∷ 12 ∷ 13 ∷ 46 ∷ 15 ∷ 16 ∷ 17 ∷ 50 ∷ 19 ∷ 20 ∷ 53 ∷ 22 ∷ 23 ∷ 56 ∷ 25 ∷ 26 ∷ 59 ∷ 28 ∷ 29 ∷ 62 ∷ 31 ∷ []

pub spread_red : (v : List ℕ) → length v ≡ 32 → pick_l 0 (v ++ v) (0 ∷ 13 ∷ 3 ∷ 8 ∷ 6 ∷ 11 ∷ 1 ∷ 14 ∷ 4 ∷ 9 ∷ 7 ∷ 12 ∷ 2 ∷ 15 ∷ 5 ∷ 10 ∷ 16 ∷ 29 ∷ 19 ∷ 24 ∷ 22 ∷ 27 ∷ 17 ∷ 30 ∷ 20 ∷ 25 ∷ 23 ∷ 28 ∷ 18 ∷ 31 ∷ 21 ∷ 26 ∷ []) ≡ map (λ q. get_or v (spread 0 q) 0) (range_with_len 0 32)
spread_red v long = by_lanes 32 (λ v. pick_l 0 (v ++ v) (0 ∷ 13 ∷ 3 ∷ 8 ∷ 6 ∷ 11 ∷ 1 ∷ 14 ∷ 4 ∷ 9 ∷ 7 ∷ 12 ∷ 2 ∷ 15 ∷ 5 ∷ 10 ∷ 16 ∷ 29 ∷ 19 ∷ 24 ∷ 22 ∷ 27 ∷ 17 ∷ 30 ∷ 20 ∷ 25 ∷ 23 ∷ 28 ∷ 18 ∷ 31 ∷ 21 ∷ 26 ∷ []) ≡ map (λ q. get_or v (spread 0 q) 0) (range_with_len 0 32)) v long refl

pub spread_green : (v : List ℕ) → length v ≡ 32 → pick_l 0 (v ++ v) (10 ∷ 0 ∷ 13 ∷ 3 ∷ 8 ∷ 6 ∷ 11 ∷ 1 ∷ 14 ∷ 4 ∷ 9 ∷ 7 ∷ 12 ∷ 2 ∷ 15 ∷ 5 ∷ 26 ∷ 16 ∷ 29 ∷ 19 ∷ 24 ∷ 22 ∷ 27 ∷ 17 ∷ 30 ∷ 20 ∷ 25 ∷ 23 ∷ 28 ∷ 18 ∷ 31 ∷ 21 ∷ []) ≡ map (λ q. get_or v (spread 1 q) 0) (range_with_len 0 32)
spread_green v long = by_lanes 32 (λ v. pick_l 0 (v ++ v) (10 ∷ 0 ∷ 13 ∷ 3 ∷ 8 ∷ 6 ∷ 11 ∷ 1 ∷ 14 ∷ 4 ∷ 9 ∷ 7 ∷ 12 ∷ 2 ∷ 15 ∷ 5 ∷ 26 ∷ 16 ∷ 29 ∷ 19 ∷ 24 ∷ 22 ∷ 27 ∷ 17 ∷ 30 ∷ 20 ∷ 25 ∷ 23 ∷ 28 ∷ 18 ∷ 31 ∷ 21 ∷ []) ≡ map (λ q. get_or v (spread 1 q) 0) (range_with_len 0 32)) v long refl

pub spread_blue : (v : List ℕ) → length v ≡ 32 → pick_l 0 (v ++ v) (5 ∷ 10 ∷ 0 ∷ 13 ∷ 3 ∷ 8 ∷ 6 ∷ 11 ∷ 1 ∷ 14 ∷ 4 ∷ 9 ∷ 7 ∷ 12 ∷ 2 ∷ 15 ∷ 21 ∷ 26 ∷ 16 ∷ 29 ∷ 19 ∷ 24 ∷ 22 ∷ 27 ∷ 17 ∷ 30 ∷ 20 ∷ 25 ∷ 23 ∷ 28 ∷ 18 ∷ 31 ∷ []) ≡ map (λ q. get_or v (spread 2 q) 0) (range_with_len 0 32)
spread_blue v long = by_lanes 32 (λ v. pick_l 0 (v ++ v) (5 ∷ 10 ∷ 0 ∷ 13 ∷ 3 ∷ 8 ∷ 6 ∷ 11 ∷ 1 ∷ 14 ∷ 4 ∷ 9 ∷ 7 ∷ 12 ∷ 2 ∷ 15 ∷ 21 ∷ 26 ∷ 16 ∷ 29 ∷ 19 ∷ 24 ∷ 22 ∷ 27 ∷ 17 ∷ 30 ∷ 20 ∷ 25 ∷ 23 ∷ 28 ∷ 18 ∷ 31 ∷ []) ≡ map (λ q. get_or v (spread 2 q) 0) (range_with_len 0 32)) v long refl
