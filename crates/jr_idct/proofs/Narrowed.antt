-- A lane that fits in 16 bits is unchanged if it is clamped to their range.
use Rattle.std.proofs.Common.{◌≡◌, ℕ, ◌<◌, ◌++◌, ℤ, pos, negsuc, cond, true, false, inl, inr, List, [], ◌∷◌, map, get_or, refl, arith, lit<, ◌∙◌, w16, w32, to_z, of_z, FitsSigned}
use mir.Val.{Val, SFits}
use denote.Array.{in_array}
use denote.Shadow.{shadow}
use denote.Signed.{SInt}
use Rattle.std.proofs.lemmas.Bool.{cases_lt, lt-ltb, le-ltb}
use Rattle.std.proofs.lemmas.Int.{ints}
use Rattle.std.proofs.lemmas.Simd.{Each1-from_get_or}
use Rattle.std.specs.Int.Signed.{lt_z}
use Rattle.std.specs.Simd.Lanes.{top, pick_l, Each1}
use Rattle.jr_idct.specs.Lanes.{half_lane}
use Rattle.jr_idct.specs.Matrix.{IsWithin, at}
use Rattle.jr_idct.proofs.Holds.{Holds, holds_given}
use Rattle.jr_idct.proofs.PairSums.{below_sixteen}
use Rattle.jr_idct.proofs.Passes.{below_eight}
use Rattle.jr_idct.proofs.Vectors.{Lanes, joined, lanes_given, lanes_join, lanes_pick, lanes_map, lanes_read}

-- no less than -32768
abbrev pub no_less : ℕ → ℕ
no_less a = cond (top 31 (cond (lt_z (to_z w32 a) (negsuc 32767)) 4294967295 0)) 4294934528 a

-- no more than 32767
abbrev pub no_more : ℕ → ℕ
no_more a = cond (top 31 (cond (lt_z (to_z w32 a) (pos 32767)) 4294967295 0)) a 32767

not_less : (z : ℤ) → IsWithin 32767 z → lt_z z (negsuc 32767) ≡ false
not_less (pos a) h = refl
not_less (negsuc a) h = le-ltb 32767 a (omega (arith, ints, h))

no_less_is : (m : ℕ) (z : ℤ) → IsWithin 32767 z → Holds w32 m z → no_less m ≡ m
no_less_is m z w h = rw (h.reads, not_less z w) refl

no_more_hold : (m : ℕ) (z : ℤ) → IsWithin 32767 z → Holds w32 m z → Holds w32 (no_more m) z
no_more_hold m (negsuc a) w h = rw h.reads h
no_more_hold m (pos a) w h =
    elim (cases_lt a 32767) [
      | inl l ↦ rw (h.reads, lt-ltb a 32767 l) h
      | inr g ↦
          let e : a ≡ 32767 = omega (arith, ints, g, w) in
          rw (h.reads, le-ltb a 32767 g, e) (holds_given w32 (pos 32767) (omega (arith, ints)))
    ]

abbrev pub held : ℕ → ℕ
held m = no_more (no_less m)

held_hold : (m : ℕ) (z : ℤ) → IsWithin 32767 z → Holds w32 m z → Holds w32 (held m) z
held_hold m z w h = rw (no_less_is m z w h) (no_more_hold m z w h)

abbrev pub order : List ℕ
order = 0 ∷ 1 ∷ 2 ∷ 3 ∷ 8 ∷ 9 ∷ 10 ∷ 11 ∷ 4 ∷ 5 ∷ 6 ∷ 7 ∷ 12 ∷ 13 ∷ 14 ∷ 15 ∷ []

abbrev pub row_of : List ℤ → List ℤ → List ℕ
row_of l u = map held (pick_l 0 (map (of_z w32) l ++ map (of_z w32) u) order)

abbrev shortened : ℕ → ℕ
shortened m = of_z w16 (to_z w32 m)

module _ (l u : List ℤ) (vs ws : List Val) (good_l : shadow (in_array ℤ (SInt w32).own_val 8 l vs)) (good_u : shadow (in_array ℤ (SInt w32).own_val 8 u ws))
    (small_l : (j : ℕ) → j < 8 → IsWithin 32767 (at l j)) (small_u : (j : ℕ) → j < 8 → IsWithin 32767 (at u j)) where
  number : ℕ → ℤ
  number k = joined 8 (at l) (at u) (get_or order k 0)

  small : (k : ℕ) → k < 16 → IsWithin 32767 (number k)
  unfolding number
  small = below_sixteen _ (small_l 0 (lit< tt)) (small_l 1 (lit< tt)) (small_l 2 (lit< tt)) (small_l 3 (lit< tt)) (small_u 0 (lit< tt)) (small_u 1 (lit< tt)) (small_u 2 (lit< tt)) (small_u 3 (lit< tt)) (small_l 4 (lit< tt)) (small_l 5 (lit< tt)) (small_l 6 (lit< tt)) (small_l 7 (lit< tt)) (small_u 4 (lit< tt)) (small_u 5 (lit< tt)) (small_u 6 (lit< tt)) (small_u 7 (lit< tt))

  hold_row : Lanes w32 16 (row_of l u) number
  unfolding number
  hold_row =
      let both = lanes_join w32 8 8 _ _ (at l) (at u) (lanes_given w32 8 l vs good_l) (lanes_given w32 8 u ws good_u) in
      let picked = lanes_pick w32 16 16 _ order (joined 8 (at l) (at u)) both refl refl in
      lanes_map w32 w32 16 _ _ _ held picked (λ m k b h. held_hold m _ (small k b) h)

  fit : (k : ℕ) → k < 16 → FitsSigned w16 (number k)
  fit k b = let s = small k b in omega (arith, ints, s)

  pub all_fit : Each1 (λ m. SFits w16 (to_z w32 m)) (row_of l u)
  all_fit = Each1-from_get_or (λ m. SFits w16 (to_z w32 m)) (row_of l u) 0 (λ k b. rw (hold_row.each k b).reads (fit k b))

  pub narrow : (k : ℕ) → k < 16 → at (map (to_z w16) (map shortened (row_of l u))) k ≡ joined 8 (at l) (at u) (get_or order k 0)
  unfolding number
  narrow k b =
      let short = lanes_map w32 w16 16 _ number number shortened hold_row (λ m k b h. rw h.reads (holds_given w16 (number k) (fit k b))) in
      lanes_read w16 16 _ _ short k b

  pub narrow_lower : (j : ℕ) → j < 8 → at (map (to_z w16) (map shortened (row_of l u))) (half_lane false j) ≡ at l j
  narrow_lower j b = narrow (half_lane false j) (omega (arith, b)) ∙ below_eight (λ j. joined 8 (at l) (at u) (get_or order (half_lane false j) 0) ≡ at l j) refl refl refl refl refl refl refl refl j b

  pub narrow_upper : (j : ℕ) → j < 8 → at (map (to_z w16) (map shortened (row_of l u))) (half_lane true j) ≡ at u j
  narrow_upper j b = narrow (half_lane true j) (omega (arith, b)) ∙ below_eight (λ j. joined 8 (at l) (at u) (get_or order (half_lane true j) 0) ≡ at u j) refl refl refl refl refl refl refl refl j b
