-- Lanes of 16 bits held between 0 and 255, as bytes.
use Rattle.std.proofs.Common.{◌≡◌, ℕ, ◌+◌, ◌-◌, ◌*◌, ◌/◌, ◌%◌, ◌<◌, ◌++◌, ℤ, pos, negsuc, min, cond, true, inl, inr, List, [], ◌∷◌, map, get_or, length, refl, arith, subst, ◌∙◌, ap, w8, w16, to_z, of_z, Fits, T}
use mir.Val.{Val}
use denote.Array.{in_array}
use denote.Shadow.{shadow}
use denote.Signed.{SInt}
use Rattle.std.proofs.lemmas.Bool.{cases_lt, lt-ltb, le-ltb}
use Rattle.std.proofs.lemmas.Int.{ints}
use Rattle.std.proofs.lemmas.List.{get_or-map}
use Rattle.std.proofs.lemmas.Simd.{Each1-from_get_or}
use Rattle.std.specs.Int.Signed.{lt_z, non_neg}
use Rattle.std.specs.Prelude.{unsigned_abs}
use Rattle.std.specs.Simd.Lanes.{all_below, top, pick_l, Each1}
use Rattle.jr_idct.specs.Lanes.{lane}
use Rattle.jr_idct.specs.Matrix.{at}
use Rattle.jr_idct.specs.Transform.{byte_of}
use Rattle.jr_idct.proofs.Holds.{Holds, holds_given}
use Rattle.jr_idct.proofs.PairSums.{below_sixteen}
use Rattle.jr_idct.proofs.Vectors.{Lanes, joined, lanes_given, lanes_join, lanes_pick, lanes_map}

abbrev pub no_less_byte : ℕ → ℕ
no_less_byte m = cond (top 15 (cond (lt_z (to_z w16 m) (pos 0)) 65535 0)) 0 m

abbrev pub no_more_byte : ℕ → ℕ
no_more_byte m = cond (top 15 (cond (lt_z (to_z w16 m) (pos 255)) 65535 0)) m 255

abbrev pub bounded : ℕ → ℕ
bounded m = no_more_byte (no_less_byte m)

bounded_hold : (m : ℕ) (z : ℤ) → Holds w16 m z → Holds w16 (bounded m) (pos (byte_of z))
bounded_hold m (negsuc a) h = rw h.reads (holds_given w16 (pos 0) (omega (arith, ints)))
bounded_hold m (pos a) h =
    let least : no_less_byte m ≡ m = rw (h.reads, le-ltb a 0 (omega arith)) refl in
    elim (cases_lt a 255) [
      | inl l ↦
          let e : min a 255 ≡ a = omega (arith, l) in
          rw (least, e, h.reads, lt-ltb a 255 l) h
      | inr g ↦
          let e : min a 255 ≡ 255 = omega (arith, g) in
          rw (least, e, h.reads, le-ltb a 255 g) (holds_given w16 (pos 255) (omega (arith, ints)))
    ]

-- the conditions of the cast of a lane
abbrev pub IsByte : ℕ → Type 0
IsByte m = T (non_neg (to_z w16 m)) × Fits w8 (unsigned_abs (to_z w16 m))

byte_below : (z : ℤ) → byte_of z < 256
byte_below (pos a) = omega arith
byte_below (negsuc a) = omega arith

abbrev pub order : List ℕ
order =
    0 ∷ 1 ∷ 2 ∷ 3 ∷ 4 ∷ 5 ∷ 6 ∷ 7 ∷ 16 ∷ 17 ∷ 18 ∷ 19 ∷ 20 ∷ 21 ∷ 22 ∷ 23
    ∷ 8 ∷ 9 ∷ 10 ∷ 11 ∷ 12 ∷ 13 ∷ 14 ∷ 15 ∷ 24 ∷ 25 ∷ 26 ∷ 27 ∷ 28 ∷ 29 ∷ 30 ∷ 31 ∷ []

abbrev pub in_place : List ℕ
in_place =
    0 ∷ 1 ∷ 2 ∷ 3 ∷ 4 ∷ 5 ∷ 6 ∷ 7 ∷ 8 ∷ 9 ∷ 10 ∷ 11 ∷ 12 ∷ 13 ∷ 14 ∷ 15 ∷ 16 ∷ 17 ∷ 18 ∷ 19 ∷ 20 ∷ 21 ∷ 22 ∷ 23
    ∷ 24 ∷ 25 ∷ 26 ∷ 27 ∷ 28 ∷ 29 ∷ 30 ∷ 31 ∷ []

abbrev pub bounded_lanes : List ℤ → List ℤ → List ℕ
bounded_lanes a b = map bounded (pick_l 0 (map (of_z w16) a ++ map (of_z w16) b) in_place)

abbrev pub byte_in : ℕ → ℕ
byte_in m = unsigned_abs (to_z w16 m)

-- the same lanes in the order in which they are stored
abbrev pub ordered : List ℤ → List ℤ → List ℕ
ordered a b = map bounded (pick_l 0 (map (of_z w16) a ++ map (of_z w16) b) order)

module _ (a b : List ℤ) (vs us : List Val) (g : shadow (in_array ℤ (SInt w16).own_val 16 a vs)) (h : shadow (in_array ℤ (SInt w16).own_val 16 b us)) where
  both : Lanes w16 32 (map (of_z w16) a ++ map (of_z w16) b) (joined 16 (at a) (at b))
  both = lanes_join w16 16 16 _ _ (at a) (at b) (lanes_given w16 16 a vs g) (lanes_given w16 16 b us h)

  number : List ℕ → ℕ → ℤ
  number ks q = joined 16 (at a) (at b) (get_or ks q 0)

  hold : (ks : List ℕ) → all_below 32 ks ≡ true → length ks ≡ 32 → Lanes w16 32 (map bounded (pick_l 0 (map (of_z w16) a ++ map (of_z w16) b) ks)) (λ q. pos (byte_of (number ks q)))
  unfolding number
  hold ks small long =
      lanes_map w16 w16 32 _ _ (λ q. pos (byte_of (number ks q))) bounded (lanes_pick w16 32 32 _ ks (joined 16 (at a) (at b)) both small long) (λ m k l p. bounded_hold m (number ks k) p)

  pub all_bytes : Each1 IsByte (bounded_lanes a b)
  all_bytes =
      let held = hold in_place refl refl in
      Each1-from_get_or IsByte (bounded_lanes a b) 0 (λ k l. rw (held.each k l).reads (tt, record { fits = byte_below (number in_place k) }))

  number_is : (q : ℕ) → q < 32 → number order q ≡ lane (a ∷ b ∷ []) (q / 8 % 2) (8 * (q / 16) + q % 8)
  unfolding number
  number_is q l =
      elim (cases_lt q 16) [
        | inl s ↦ below_sixteen (λ q. joined 16 (at a) (at b) (get_or order q 0) ≡ lane (a ∷ b ∷ []) (q / 8 % 2) (8 * (q / 16) + q % 8)) refl refl refl refl refl refl refl refl refl refl refl refl refl refl refl refl q s
        | inr o ↦
            let e : 16 + (q - 16) ≡ q = omega (arith, o) in
            subst (λ q. joined 16 (at a) (at b) (get_or order q 0) ≡ lane (a ∷ b ∷ []) (q / 8 % 2) (8 * (q / 16) + q % 8)) e
            (below_sixteen (λ k. joined 16 (at a) (at b) (get_or order (16 + k) 0) ≡ lane (a ∷ b ∷ []) ((16 + k) / 8 % 2) (8 * ((16 + k) / 16) + (16 + k) % 8)) refl refl refl refl refl refl refl refl refl refl refl refl refl refl refl refl (q - 16) (omega (arith, o, l)))
      ]

  pub byte_at : (q : ℕ) → q < 32 → get_or (map byte_in (ordered a b)) q 0 ≡ byte_of (lane (a ∷ b ∷ []) (q / 8 % 2) (8 * (q / 16) + q % 8))
  byte_at q l =
      let held = hold order refl refl in
      let inside : q < length (ordered a b) = omega (arith, l, held.long) in
      get_or-map byte_in (ordered a b) q 0 0 inside ∙ ap unsigned_abs (held.each q l).reads ∙ ap byte_of (number_is q l)
