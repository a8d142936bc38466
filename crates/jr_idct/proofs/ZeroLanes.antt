-- Vectors that are ORed, masked and compared with zero.
use Rattle.std.proofs.Common.{◌≡◌, ℕ, zero, suc, ◌+◌, ◌*◌, ◌/◌, ◌%◌, ◌<◌, ◌≤◌, ℤ, pos, List, [], ◌∷◌, length, get_or, map, replicate, bit_and, bit_or, refl, ap, sym, ◌∙◌, arith, subst, inl, inr, ◌-◌, to_z, of_z, w16}
use denote.Array.{in_array}
use denote.Shadow.{shadow}
use denote.Signed.{SInt}
use mir.Val.{Val}
use Rattle.std.proofs.lemmas.Int.{of_z-to_z}
use Rattle.std.proofs.lemmas.List.{get_or-map}
use Rattle.std.proofs.lemmas.Nat.{and_mask, le_or_l, le_or_r, or_of_16}
use Rattle.std.proofs.lemmas.Bool.{cases_lt}
use Rattle.std.proofs.lemmas.Simd.{get_or-replicate, get_or-zip2, length-zip2}
use Rattle.std.specs.Simd.Lanes.{fold_l, zip2}
use Rattle.jr_base.specs.Zigzag.{natural_index, zigzag_place}
use Rattle.jr_base.proofs.Orders.{place_of_natural, natural_below}
use Rattle.jr_idct.specs.Matrix.{at}
use Rattle.jr_idct.specs.Transform.{IsLow}
use Rattle.jr_idct.proofs.Passes.{below_four}
use Rattle.jr_idct.proofs.Tables.{zigzag_place_0}
use Rattle.jr_idct.proofs.Vectors.{Lanes, lanes_given, unchanged}

zero_bits : (m : ℕ) → m < 65536 → to_z w16 m ≡ pos 0 → m ≡ 0
zero_bits m h e = sym (of_z-to_z w16 m h) ∙ ap (of_z w16) e

-- lane j of what an operation makes of the bits of two vectors
zipped : (f : ℕ → ℕ → ℕ) (xs ys : List ℕ) → length xs ≡ 16 → length ys ≡ 16 → (j : ℕ) → j < 16 → at (map (to_z w16) (zip2 f xs ys)) j ≡ to_z w16 (f (get_or xs j 0) (get_or ys j 0))
zipped f xs ys p q j l =
    get_or-map (to_z w16) (zip2 f xs ys) j 0 (pos 0) (omega (arith, l, p, length-zip2 f xs ys (p ∙ sym q)))
    ∙ ap (to_z w16) (get_or-zip2 f xs ys j 0 0 0 (omega (arith, l, p)) (omega (arith, l, q)))

folded : (xs : List ℕ) (a : ℕ) → fold_l bit_or a xs ≡ 0 → (a ≡ 0) × ((j : ℕ) → j < length xs → get_or xs j 0 ≡ 0)
folded [] a e = (e, λ j l. absurd (omega (arith, l)))
folded (y ∷ ys) a e = split (folded ys (bit_or a y) e)
  where
    rest : ((j : ℕ) → j < length ys → get_or ys j 0 ≡ 0) → bit_or a y ≡ 0 → (j : ℕ) → j < length (y ∷ ys) → get_or (y ∷ ys) j 0 ≡ 0
    rest r f zero l = omega (arith, f, le_or_r a y)
    rest r f (suc j) l = r j (omega (arith, l))

    split : (bit_or a y ≡ 0) × ((j : ℕ) → j < length ys → get_or ys j 0 ≡ 0) → (a ≡ 0) × ((j : ℕ) → j < length (y ∷ ys) → get_or (y ∷ ys) j 0 ≡ 0)
    split r = (let f = r.0 in omega (arith, f, le_or_l a y), rest r.1 r.0)

module _ (x : List ℤ) (vs : List Val) (h : shadow (in_array ℤ (SInt w16).own_val 16 x vs)) where
  bits : Lanes w16 16 (map (of_z w16) x) (at x)
  bits = lanes_given w16 16 x vs h

  -- a lane whose bits are kept by a mask
  pub masked : (mask : List ℕ) → length mask ≡ 16 → (j : ℕ) → j < 16 → get_or mask j 0 ≡ 65535 → at (map (to_z w16) (zip2 bit_and (map (of_z w16) x) mask)) j ≡ at x j
  masked mask long j l e =
      let b = bits.each j l in
      let m = get_or (map (of_z w16) x) j 0 in
      let kept : bit_and m (get_or mask j 0) ≡ m = ap (bit_and m) e ∙ and_mask m 16 ∙ (let f = b.fits in omega (arith, f)) in
      zipped bit_and (map (of_z w16) x) mask bits.long long j l ∙ ap (to_z w16) kept ∙ b.reads

  -- all lanes are 0 if their bits ORed are
  pub all_zero : fold_l bit_or 0 (map (of_z w16) x) ≡ 0 → (j : ℕ) → j < 16 → at x j ≡ pos 0
  all_zero e j l =
      let long = bits.long in
      sym (bits.each j l).reads ∙ ap (to_z w16) ((folded (map (of_z w16) x) 0 e).1 j (omega (arith, l, long)))

  module _ (y : List ℤ) (us : List Val) (g : shadow (in_array ℤ (SInt w16).own_val 16 y us)) where
    -- both lanes are 0 if their bits ORed are
    pub both_zero : (j : ℕ) → j < 16 → at (map (to_z w16) (zip2 bit_or (map (of_z w16) x) (map (of_z w16) y))) j ≡ pos 0 → (at x j ≡ pos 0) × (at y j ≡ pos 0)
    both_zero j l e =
        let p = bits.each j l in
        let o = lanes_given w16 16 y us g in
        let q = o.each j l in
        let m = get_or (map (of_z w16) x) j 0 in
        let n = get_or (map (of_z w16) y) j 0 in
        let none : bit_or m n ≡ 0 = zero_bits (bit_or m n) (or_of_16 m n p.fits q.fits) (sym (zipped bit_or (map (of_z w16) x) (map (of_z w16) y) bits.long o.long j l) ∙ e) in (
          sym p.reads ∙ ap (to_z w16) (let f : m ≡ 0 = omega (arith, none, le_or_l m n) in f),
          sym q.reads ∙ ap (to_z w16) (let f : n ≡ 0 = omega (arith, none, le_or_r m n) in f),
        )

-- a lane of a vector that was handed on
pub passed : (x : List ℤ) (vs : List Val) → shadow (in_array ℤ (SInt w16).own_val 16 x vs) → (j : ℕ) → at (map (to_z w16) (map (of_z w16) x)) j ≡ pos 0 → at x j ≡ pos 0
passed x vs h j e = sym (ap (λ v. at v j) (unchanged w16 16 x vs h)) ∙ e

-- which lanes the masks keep
abbrev pub rest_mask : List ℕ
rest_mask = 0 ∷ replicate 15 65535

abbrev pub right_mask : List ℕ
right_mask = 0 ∷ 0 ∷ 0 ∷ 0 ∷ 65535 ∷ 65535 ∷ 65535 ∷ 65535 ∷ 0 ∷ 0 ∷ 0 ∷ 0 ∷ 65535 ∷ 65535 ∷ 65535 ∷ 65535 ∷ []

pub rest_kept : (j : ℕ) → 0 < j → j < 16 → get_or rest_mask j 0 ≡ 65535
rest_kept zero p l = absurd (omega (arith, p))
rest_kept (suc j) p l = get_or-replicate 15 j 65535 0 (omega (arith, l))

pub right_kept : (j : ℕ) → j < 16 → 4 ≤ j % 8 → get_or right_mask j 0 ≡ 65535
right_kept j l g =
    let e : 8 * (j / 8) + (4 + (j % 8 - 4)) ≡ j = omega (arith, g) in
    subst (λ j. get_or right_mask j 0 ≡ 65535) e (elim (cases_lt j 8) [
      | inl a ↦
          let z : j / 8 ≡ 0 = omega (arith, a) in
          rw z (below_four (λ r. get_or right_mask (8 * 0 + (4 + r)) 0 ≡ 65535) refl refl refl refl (j % 8 - 4) (omega (arith, g)))
      | inr b ↦
          let o : j / 8 ≡ 1 = omega (arith, l, b) in
          rw o (below_four (λ r. get_or right_mask (8 * 1 + (4 + r)) 0 ≡ 65535) refl refl refl refl (j % 8 - 4) (omega (arith, g)))
    ])

-- numbers of a block, by two rows in each vector
by_vectors : (P : ℕ → Type 0) → ((j : ℕ) → j < 16 → P (16 * 0 + j)) → ((j : ℕ) → j < 16 → P (16 * 1 + j)) → ((j : ℕ) → j < 16 → P (16 * 2 + j)) → ((j : ℕ) → j < 16 → P (16 * 3 + j)) → (n : ℕ) → n < 64 → P n
by_vectors P p0 p1 p2 p3 n h =
    let e : 16 * (n / 16) + n % 16 ≡ n = omega arith in
    subst P e (below_four (λ q. (j : ℕ) → j < 16 → P (16 * q + j)) p0 p1 p2 p3 (n / 16) (omega (arith, h)) (n % 16) (omega arith))

-- a block in natural order
module _ (z natural : List ℤ) (is_natural : (n : ℕ) → n < 64 → at natural n ≡ at z (zigzag_place n)) where
  -- of which all coefficients but the first are 0, if those in rows and columns 4 to 7 are
  pub only_first : IsLow (λ n. at z (zigzag_place n)) → ((j : ℕ) → 0 < j → j < 16 → at natural (16 * 0 + j) ≡ pos 0) → ((j : ℕ) → j < 16 → at natural (16 * 1 + j) ≡ pos 0) → (k : ℕ) → 0 < k → k < 64 → at z k ≡ pos 0
  only_first low r0 r2 k p h =
      let n = natural_index k in
      let below = natural_below k h in
      let place = place_of_natural k h in
      let last : (n : ℕ) → 32 ≤ n → n < 64 → at natural n ≡ pos 0 = λ n l b. is_natural n b ∙ low.0 n l b in
      sym (is_natural n below ∙ ap (at z) place)
      ∙ by_vectors (λ n. 0 < n → at natural n ≡ pos 0) (λ j l p. r0 j (omega (arith, p)) l) (λ j l p. r2 j l) (λ j l p. last (32 + j) (omega arith) (omega (arith, l))) (λ j l p. last (48 + j) (omega arith) (omega (arith, l))) n below (positive n place)
    where
      positive : (n : ℕ) → zigzag_place n ≡ k → 0 < n
      positive zero e = absurd (let f = zigzag_place_0 in omega (arith, p, e, f))
      positive (suc n) e = omega arith

  -- of which all coefficients in rows and columns 4 to 7 are 0
  pub only_low : ((j : ℕ) → j < 16 → 4 ≤ j % 8 → at natural (16 * 0 + j) ≡ pos 0) → ((j : ℕ) → j < 16 → 4 ≤ j % 8 → at natural (16 * 1 + j) ≡ pos 0) → ((j : ℕ) → j < 16 → at natural (16 * 2 + j) ≡ pos 0) → ((j : ℕ) → j < 16 → at natural (16 * 3 + j) ≡ pos 0)
      → IsLow (λ n. at z (zigzag_place n))
  only_low r0 r2 r4 r6 = (
    λ n l h. sym (is_natural n h) ∙ by_vectors (λ n. 32 ≤ n → at natural n ≡ pos 0) (λ j b l. absurd (omega (arith, b, l))) (λ j b l. absurd (omega (arith, b, l))) (λ j b l. r4 j b) (λ j b l. r6 j b) n h l,
    λ n h l. sym (is_natural n h) ∙ by_vectors (λ n. 4 ≤ n % 8 → at natural n ≡ pos 0) (λ j b l. r0 j b (omega (arith, l))) (λ j b l. r2 j b (omega (arith, l))) (λ j b l. r4 j b) (λ j b l. r6 j b) n h l,
  )
