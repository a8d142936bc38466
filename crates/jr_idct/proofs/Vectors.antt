-- The number that each lane of a vector holds.
use Rattle.std.proofs.Common.{◌≡◌, ℕ, zero, suc, ◌+◌, ◌-◌, ◌<◌, ℤ, pos, Bool, true, false, cond, nat_lt, List, [], ◌∷◌, ◌++◌, length, get_or, map, replicate, refl, ap, ap₂, sym, ◌∙◌, arith, subst, to_z, of_z, inl, inr, ◌&&◌}
use mir.Syntax.{Width}
use mir.Val.{Val, SFits}
use denote.Array.{each, in_array}
use denote.Shadow.{shadow}
use denote.Signed.{SInt}
use Rattle.std.proofs.lemmas.Bool.{cases_lt, lt-ltb, le-ltb}
use Rattle.std.proofs.lemmas.Bool.Decides.{nat_tests}
use Rattle.std.proofs.lemmas.List.{ext_get_or, length-map, get_or-map, length-append, get_or_append_left, get_or-append-add}
use Rattle.std.proofs.lemmas.Simd.{length-zip2, get_or-zip2, get_or-replicate, length-replicate}
use Rattle.std.specs.Simd.Lanes.{zip2, pick_l, all_below}
use Rattle.jr_idct.specs.Matrix.{at}
use Rattle.jr_idct.proofs.Holds.{Holds, holds_given}

-- lane k of n lanes holds f k
pub record Lanes (w : Width) (n : ℕ) (xs : List ℕ) (f : ℕ → ℤ) : Type 0 where
  pub long : length xs ≡ n
  pub each : (k : ℕ) → k < n → Holds w (get_or xs k 0) (f k)

each_fits : (w : Width) (xs : List ℤ) (us : List Val) → shadow (each ℤ (SInt w).own_val xs us) → (k : ℕ) → k < length xs → SFits w (get_or xs k (pos 0))
each_fits w [] us h k l = absurd (omega (arith, l))
each_fits w (x ∷ xs) [] h k l = absurd h
each_fits w (x ∷ xs) (u ∷ us) h zero l = record { sfits = h.0.1 }
each_fits w (x ∷ xs) (u ∷ us) h (suc k) l = each_fits w xs us h.1 k (omega (arith, l))

-- a vector that is an argument
pub lanes_fit : (w : Width) (n : ℕ) (xs : List ℤ) (vs : List Val) → shadow (in_array ℤ (SInt w).own_val n xs vs) → (k : ℕ) → k < n → SFits w (get_or xs k (pos 0))
lanes_fit w n xs vs h k l = each_fits w xs h.0 h.1.1 k (let e = h.1.0.1 in omega (arith, l, e))

pub lanes_given : (w : Width) (n : ℕ) (xs : List ℤ) (vs : List Val) → shadow (in_array ℤ (SInt w).own_val n xs vs) → Lanes w n (map (of_z w) xs) (at xs)
lanes_given w n xs vs h = record {
  long = length-map xs (of_z w) ∙ h.1.0.1;
  each = λ k l.
      let inside : k < length xs = (let e = h.1.0.1 in omega (arith, l, e)) in
      subst (λ m. Holds w m (at xs k)) (sym (get_or-map (of_z w) xs k (pos 0) 0 inside)) (holds_given w (at xs k) (lanes_fit w n xs vs h k l));
}

pub lanes_splat : (w : Width) (n m : ℕ) (a : ℤ) → Holds w m a → Lanes w n (replicate n m) (λ _. a)
lanes_splat w n m a h = record {
  long = length-replicate n m;
  each = λ k l. subst (λ x. Holds w x a) (sym (get_or-replicate n k m 0 l)) h;
}

-- a function of each lane
pub lanes_map : (w v : Width) (n : ℕ) (xs : List ℕ) (f g : ℕ → ℤ) (h : ℕ → ℕ) → Lanes w n xs f → ((m k : ℕ) → k < n → Holds w m (f k) → Holds v (h m) (g k)) → Lanes v n (map h xs) g
lanes_map w v n xs f g h p s = record {
  long = length-map xs h ∙ p.long;
  each = λ k l.
      let inside : k < length xs = omega (arith, l, p.long) in
      subst (λ m. Holds v m (g k)) (sym (get_or-map h xs k 0 0 inside)) (s (get_or xs k 0) k l (p.each k l));
}

-- and of each pair
pub lanes_zip : (u w v : Width) (n : ℕ) (xs ys : List ℕ) (f g e : ℕ → ℤ) (h : ℕ → ℕ → ℕ) → Lanes u n xs f → Lanes w n ys g
    → ((m o k : ℕ) → k < n → Holds u m (f k) → Holds w o (g k) → Holds v (h m o) (e k)) → Lanes v n (zip2 h xs ys) e
lanes_zip u w v n xs ys f g e h p q s = record {
  long = length-zip2 h xs ys (p.long ∙ sym q.long) ∙ p.long;
  each = λ k l.
      let first : k < length xs = omega (arith, l, p.long) in
      let second : k < length ys = omega (arith, l, q.long) in
      subst (λ m. Holds v m (e k)) (sym (get_or-zip2 h xs ys k 0 0 0 first second)) (s (get_or xs k 0) (get_or ys k 0) k l (p.each k l) (q.each k l));
}

-- the lanes of two vectors, one after the other
abbrev pub joined : (n : ℕ) (f g : ℕ → ℤ) → ℕ → ℤ
joined n f g k = cond (nat_lt k n) (f k) (g (k - n))

pub lanes_join : (w : Width) (n m : ℕ) (xs ys : List ℕ) (f g : ℕ → ℤ) → Lanes w n xs f → Lanes w m ys g → Lanes w (n + m) (xs ++ ys) (joined n f g)
lanes_join w n m xs ys f g p q = record {
  long = length-append xs ys ∙ ap₂ (λ a b. a + b) p.long q.long;
  each = λ k l.
      elim (cases_lt k n) [
        | inl a ↦ rw (lt-ltb k n a, get_or_append_left xs ys 0 k (omega (arith, a, p.long))) (p.each k a)
        | inr b ↦
            let there : length xs + (k - n) ≡ k = omega (arith, b, p.long) in
            let e : get_or (xs ++ ys) k 0 ≡ get_or ys (k - n) 0 = ap (λ j. get_or (xs ++ ys) j 0) (sym there) ∙ get_or-append-add xs ys (k - n) 0 in
            rw (le-ltb k n b, e) (q.each (k - n) (omega (arith, b, l)))
      ];
}

-- what lanes hold, read back
pub lanes_read : (w : Width) (n : ℕ) (xs : List ℕ) (f : ℕ → ℤ) → Lanes w n xs f → (k : ℕ) → k < n → at (map (to_z w) xs) k ≡ f k
lanes_read w n xs f p k l =
    let inside : k < length xs = omega (arith, l, p.long) in
    get_or-map (to_z w) xs k 0 (pos 0) inside ∙ (p.each k l).reads

pub read_lane : (w : Width) (n : ℕ) (xs : List ℕ) (f : ℕ → ℤ) → Lanes w n xs f → (k : ℕ) → k < n → to_z w (get_or xs k 0) ≡ f k
read_lane w n xs f p k l = (p.each k l).reads

-- the lanes at positions
all_at : (n : ℕ) (ks : List ℕ) (k : ℕ) → all_below n ks ≡ true → k < length ks → get_or ks k 0 < n
all_at n [] k h l = absurd (omega (arith, l))
all_at n (j ∷ ks) zero h l = below_first (nat_lt j n) (all_below n ks) h
  where
    below_first : (a b : Bool) → (a && b) ≡ true → j < n
    below_first a b e = grind (arith, nat_tests)
all_at n (j ∷ ks) (suc k) h l = all_at n ks k (rest (nat_lt j n) (all_below n ks) h) (omega (arith, l))
  where
    rest : (a b : Bool) → (a && b) ≡ true → b ≡ true
    rest true b e = e
    rest false b e = cc

all_rest : (n k : ℕ) (ks : List ℕ) → all_below n (k ∷ ks) ≡ true → all_below n ks ≡ true
all_rest n k ks h = rest (nat_lt k n) (all_below n ks) h
  where
    rest : (a b : Bool) → (a && b) ≡ true → b ≡ true
    rest true b e = e
    rest false b e = cc

pub lanes_pick : (w : Width) (n m : ℕ) (xs ks : List ℕ) (f : ℕ → ℤ) → Lanes w n xs f → all_below n ks ≡ true → length ks ≡ m → Lanes w m (pick_l 0 xs ks) (λ k. f (get_or ks k 0))
lanes_pick w n m xs ks f p small long = record {
  long = length-map ks (λ k. get_or xs k 0) ∙ long;
  each = λ k l.
      let inside : k < length ks = omega (arith, l, long) in
      subst (λ b. Holds w b (f (get_or ks k 0))) (sym (get_or-map (λ i. get_or xs i 0) ks k 0 0 inside)) (p.each (get_or ks k 0) (all_at n ks k small inside));
}

-- a vector whose lanes are cast to their own type
pub unchanged : (w : Width) (n : ℕ) (xs : List ℤ) (vs : List Val) → shadow (in_array ℤ (SInt w).own_val n xs vs) → map (to_z w) (map (of_z w) xs) ≡ xs
unchanged w n xs vs h =
    let g = lanes_given w n xs vs h in
    let long : length (map (to_z w) (map (of_z w) xs)) ≡ length xs = length-map (map (of_z w) xs) (to_z w) ∙ length-map xs (of_z w) in
    ext_get_or (pos 0) (map (to_z w) (map (of_z w) xs)) xs long
    (λ k l. lanes_read w n _ _ g k (let e = h.1.0.1 in omega (arith, l, long, e)))

-- the lanes at positions in two vectors that are arguments
module _ (w : Width) (n m : ℕ) (a b : List ℤ) (vs us : List Val) (g : shadow (in_array ℤ (SInt w).own_val n a vs)) (h : shadow (in_array ℤ (SInt w).own_val m b us)) where
  pub at_joined : (k : ℕ) → at (a ++ b) k ≡ joined n (at a) (at b) k
  at_joined k =
      let long : length a ≡ n = g.1.0.1 in
      elim (cases_lt k n) [
        | inl l ↦ rw (lt-ltb k n l) (get_or_append_left a b (pos 0) k (omega (arith, l, long)))
        | inr o ↦
            let there : length a + (k - n) ≡ k = omega (arith, o, long) in
            rw (le-ltb k n o) (ap (λ j. get_or (a ++ b) j (pos 0)) (sym there) ∙ get_or-append-add a b (k - n) (pos 0))
      ]

  pub picked : (ks : List ℕ) → all_below (n + m) ks ≡ true → map (to_z w) (pick_l 0 (map (of_z w) a ++ map (of_z w) b) ks) ≡ pick_l (pos 0) (a ++ b) ks
  picked [] e = refl
  picked (k ∷ ks) e =
      let both = lanes_join w n m _ _ (at a) (at b) (lanes_given w n a vs g) (lanes_given w m b us h) in
      let r = read_lane w (n + m) _ _ both k (all_at (n + m) (k ∷ ks) 0 e (omega arith)) ∙ sym (at_joined k) in
      λ i. r i ∷ picked ks (all_rest (n + m) k ks e) i
