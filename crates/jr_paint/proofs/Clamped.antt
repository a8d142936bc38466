-- A sum of two numbers, less 1628, in a lane: clamped to a byte.
use Rattle.std.proofs.Common.{◌≡◌, ℕ, ◌+◌, ◌-◌, ◌*◌, ◌/◌, ◌%◌, ◌<◌, ◌≤◌, min, cond, List, [], ◌∷◌, ◌++◌, length, subst, get_or, map, replicate, refl, ap, ◌∙◌, arith, lit<, w8, w16, Fits, inl, inr}
use Rattle.std.proofs.lemmas.Bool.{cases_lt, lt-ltb, le-ltb}
use Rattle.std.proofs.lemmas.Int.{to_z_pos}
use Rattle.std.specs.Int.{cast_signed}
use Rattle.std.specs.Prelude.{unsigned_abs, T, slice_index_or}
use Rattle.std.specs.Int.Signed.{lt_z, non_neg}
use Rattle.std.specs.Simd.Lanes.{zip2, sel_l, pick_l, top, Each1}
use Rattle.jr_paint.proofs.EachLane.{Has, joined, has_given, has_splat, has_map, has_zip2, has_sel, has_join, has_pick, has_each, below_eight}

-- the bits of y - 1628 + r, in a lane
abbrev pub sum_of : ℕ → ℕ → ℕ
sum_of y r = ((y + (65536 - 1628)) % 65536 + r) % 65536

-- the mask of a signed comparison
abbrev pub below : ℕ → ℕ → ℕ
below a b = cond (lt_z (cast_signed w16 a) (cast_signed w16 b)) 65535 0

abbrev pub at_least : ℕ → ℕ
at_least a = cond (top 15 (below a 0)) 0 a

abbrev pub at_most : ℕ → ℕ
at_most a = cond (top 15 (below a 255)) a 255

sum_under : (y r : ℕ) → y < 256 → y + r < 1628 → sum_of y r ≡ y + 63908 + r
sum_under y r p q = omega arith

sum_over : (y r : ℕ) → y < 256 → r < 4096 → 1628 ≤ y + r → sum_of y r ≡ y + r - 1628
sum_over y r p q s = omega arith

at_least-negative : (a : ℕ) → 32768 ≤ a → at_least a ≡ 0
at_least-negative a p = rw (le-ltb a 32768 p) refl

at_least-other : (a : ℕ) → a < 32768 → at_least a ≡ a
at_least-other a p = rw (lt-ltb a 32768 p, le-ltb a 0 (omega arith)) refl

at_most-is : (a : ℕ) → a < 32768 → at_most a ≡ min a 255
at_most-is a p =
    elim (cases_lt a 255) [
      | inl s ↦ rw (lt-ltb a 32768 p, lt-ltb a 255 s) (omega (arith, s))
      | inr s ↦ rw (lt-ltb a 32768 p, le-ltb a 255 s) (omega (arith, s))
    ]

pub at_most-least : (y r : ℕ) → y < 256 → r < 4096 → at_most (at_least (sum_of y r)) ≡ min (y + r - 1628) 255
at_most-least y r p q =
    elim (cases_lt (y + r) 1628) [
      | inl s ↦ ap at_most (at_least-negative (sum_of y r) (omega (arith, s, sum_under y r p s))) ∙ omega (arith, s)
      | inr s ↦
          let e = sum_over y r p q s in
          ap at_most (at_least-other (sum_of y r) (omega (arith, s, e))) ∙ (at_most-is (sum_of y r) (omega (arith, s, e)) ∙ omega (arith, s, e))
    ]

-- sixteen lanes before they are clamped
abbrev pub sums : List ℕ → List ℕ → List ℕ
sums ys rs = zip2 (λ a b. (a + b) % 65536) (zip2 (λ a b. (a + (65536 - b)) % 65536) (map (λ a. a) ys) (replicate 16 1628)) (map (λ a. a) rs)

has_sums : (ys rs : List ℕ) → length ys ≡ 16 → length rs ≡ 16 → Has 16 (sums ys rs) (λ k. sum_of (get_or ys k 0) (get_or rs k 0))
has_sums ys rs p q =
    let y = has_map 16 (λ a. a) ys (λ k. get_or ys k 0) (has_given 16 ys p) in
    let r = has_map 16 (λ a. a) rs (λ k. get_or rs k 0) (has_given 16 rs q) in
    let less = has_zip2 16 (λ a b. (a + (65536 - b)) % 65536) (map (λ a. a) ys) (replicate 16 1628) (λ k. get_or ys k 0) (λ _. 1628) y (has_splat 16 1628) in
    has_zip2 16 (λ a b. (a + b) % 65536) _ (map (λ a. a) rs) _ (λ k. get_or rs k 0) less r

-- the 32 lanes before the last cast
abbrev pub raised_to_zero : List ℕ → List ℕ
raised_to_zero xs = sel_l (map (top 15) (zip2 below xs (replicate 32 0))) (replicate 32 0) xs

abbrev pub lowered_to_byte : List ℕ → List ℕ
lowered_to_byte xs = sel_l (map (top 15) (zip2 below xs (replicate 32 255))) xs (replicate 32 255)

has_raised : (xs : List ℕ) (f : ℕ → ℕ) → Has 32 xs f → Has 32 (raised_to_zero xs) (λ k. at_least (f k))
has_raised xs f p =
    let tests = has_zip2 32 below xs (replicate 32 0) f (λ _. 0) p (has_splat 32 0) in
    has_sel 32 _ (replicate 32 0) xs _ (λ _. 0) f (has_map 32 (top 15) _ _ tests) (has_splat 32 0) p

has_lowered : (xs : List ℕ) (f : ℕ → ℕ) → Has 32 xs f → Has 32 (lowered_to_byte xs) (λ k. at_most (f k))
has_lowered xs f p =
    let tests = has_zip2 32 below xs (replicate 32 255) f (λ _. 255) p (has_splat 32 255) in
    has_sel 32 _ xs (replicate 32 255) _ f (λ _. 255) (has_map 32 (top 15) _ _ tests) p (has_splat 32 255)

abbrev pub order : List ℕ
order = 0 ∷ 1 ∷ 2 ∷ 3 ∷ 4 ∷ 5 ∷ 6 ∷ 7 ∷ 16 ∷ 17 ∷ 18 ∷ 19 ∷ 20 ∷ 21 ∷ 22 ∷ 23 ∷ 8 ∷ 9 ∷ 10 ∷ 11 ∷ 12 ∷ 13 ∷ 14 ∷ 15 ∷ 24 ∷ 25 ∷ 26 ∷ 27 ∷ 28 ∷ 29 ∷ 30 ∷ 31 ∷ []

abbrev pub clamped : List ℕ → List ℕ → List ℕ → List ℕ → List ℕ
clamped ys rs zs ss = lowered_to_byte (raised_to_zero (pick_l 0 (sums ys rs ++ sums zs ss) order))

-- the conditions of the last cast of a lane, and its result
abbrev pub IsByte : ℕ → Type 0
IsByte a = T (non_neg (cast_signed w16 a)) × Fits w8 (unsigned_abs (cast_signed w16 a))

IsByte-below : (a : ℕ) → a < 256 → IsByte a
IsByte-below a p = rw (to_z_pos w16 a (omega arith)) (tt, record { fits = p })

cast_byte : (a : ℕ) → a < 256 → unsigned_abs (cast_signed w16 a) ≡ a
cast_byte a p = rw (to_z_pos w16 a (omega arith)) refl

below_32 : (P : ℕ → Type 0) → ((k : ℕ) → k < 8 → P k) → ((k : ℕ) → k < 8 → P (8 + k)) → ((k : ℕ) → k < 8 → P (16 + k)) → ((k : ℕ) → k < 8 → P (24 + k)) → (q : ℕ) → q < 32 → P q
below_32 P a b c d q h =
    elim (cases_lt q 8) [
      | inl l ↦ a q l
      | inr g ↦
          elim (cases_lt q 16) [
            | inl l ↦ let e : 8 + (q - 8) ≡ q = omega (arith, g) in subst P e (b (q - 8) (omega (arith, g, l)))
            | inr m ↦
                elim (cases_lt q 24) [
                  | inl l ↦ let e : 16 + (q - 16) ≡ q = omega (arith, m) in subst P e (c (q - 16) (omega (arith, m, l)))
                  | inr n ↦ let e : 24 + (q - 24) ≡ q = omega (arith, n) in subst P e (d (q - 24) (omega (arith, n, h)))
                ]
          ]
    ]

module _ (ys rs zs ss : List ℕ) (long_y : length ys ≡ 16) (long_r : length rs ≡ 16) (long_z : length zs ≡ 16) (long_s : length ss ≡ 16)
    (byte_y : (k : ℕ) → k < 16 → get_or ys k 0 < 256) (byte_z : (k : ℕ) → k < 16 → get_or zs k 0 < 256) (small_r : (k : ℕ) → k < 16 → get_or rs k 0 < 4096) (small_s : (k : ℕ) → k < 16 → get_or ss k 0 < 4096) where
  first : ℕ → ℕ
  first k = sum_of (get_or ys k 0) (get_or rs k 0)

  second : ℕ → ℕ
  second k = sum_of (get_or zs k 0) (get_or ss k 0)

  has_clamped : Has 32 (clamped ys rs zs ss) (λ q. at_most (at_least (joined 16 first second (get_or order q 0))))
  unfolding first second
  has_clamped =
      let both = has_join 16 16 _ _ _ _ (has_sums ys rs long_y long_r) (has_sums zs ss long_z long_s) in
      has_lowered _ _ (has_raised _ _ (has_pick 32 32 _ order _ both refl refl))

  abbrev pub luma : ℕ → ℕ
  luma q = get_or (slice_index_or (ys ∷ zs ∷ []) (q / 8 % 2) []) (8 * (q / 16) + q % 8) 0

  abbrev pub more : ℕ → ℕ
  more q = get_or (slice_index_or (rs ∷ ss ∷ []) (q / 8 % 2) []) (8 * (q / 16) + q % 8) 0

  abbrev Right : ℕ → Type 0
  Right q = at_most (at_least (joined 16 first second (get_or order q 0))) ≡ min (luma q + more q - 1628) 255

  one : (k : ℕ) → k < 16 → at_most (at_least (first k)) ≡ min (get_or ys k 0 + get_or rs k 0 - 1628) 255
  unfolding first
  one k l = at_most-least (get_or ys k 0) (get_or rs k 0) (byte_y k l) (small_r k l)

  other : (k : ℕ) → k < 16 → at_most (at_least (second k)) ≡ min (get_or zs k 0 + get_or ss k 0 - 1628) 255
  unfolding second
  other k l = at_most-least (get_or zs k 0) (get_or ss k 0) (byte_z k l) (small_s k l)

  lane : (q : ℕ) → q < 32 → Right q
  lane = below_32 Right
      (below_eight Right (one 0 (lit< tt)) (one 1 (lit< tt)) (one 2 (lit< tt)) (one 3 (lit< tt)) (one 4 (lit< tt)) (one 5 (lit< tt)) (one 6 (lit< tt)) (one 7 (lit< tt)))
      (below_eight (λ k. Right (8 + k)) (other 0 (lit< tt)) (other 1 (lit< tt)) (other 2 (lit< tt)) (other 3 (lit< tt)) (other 4 (lit< tt)) (other 5 (lit< tt)) (other 6 (lit< tt)) (other 7 (lit< tt)))
      (below_eight (λ k. Right (16 + k)) (one 8 (lit< tt)) (one 9 (lit< tt)) (one 10 (lit< tt)) (one 11 (lit< tt)) (one 12 (lit< tt)) (one 13 (lit< tt)) (one 14 (lit< tt)) (one 15 (lit< tt)))
      (below_eight (λ k. Right (24 + k)) (other 8 (lit< tt)) (other 9 (lit< tt)) (other 10 (lit< tt)) (other 11 (lit< tt)) (other 12 (lit< tt)) (other 13 (lit< tt)) (other 14 (lit< tt)) (other 15 (lit< tt)))

  pub clamped_are_bytes : Each1 IsByte (clamped ys rs zs ss)
  clamped_are_bytes = has_each 32 IsByte (clamped ys rs zs ss) _ has_clamped (λ q l. IsByte-below _ (omega (arith, lane q l)))

  pub clamped_value : (q : ℕ) → q < 32 → get_or (map (λ a. unsigned_abs (cast_signed w16 a)) (clamped ys rs zs ss)) q 0 ≡ min (luma q + more q - 1628) 255
  clamped_value q l =
      (has_map 32 (λ a. unsigned_abs (cast_signed w16 a)) (clamped ys rs zs ss) _ has_clamped).each 0 q l
      ∙ (cast_byte _ (omega (arith, lane q l)) ∙ lane q l)
