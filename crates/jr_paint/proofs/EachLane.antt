-- The number that each of the lanes of a vector holds.
use Rattle.std.proofs.Common.{◌≡◌, ℕ, zero, suc, ◌+◌, ◌-◌, ◌<◌, cond, nat_lt, List, [], ◌∷◌, ◌++◌, Bool, true, false, ◌&&◌, length, get_or, map, replicate, ap, ap₂, sym, subst, ◌∙◌, inl, inr, arith, w8, Fits}
use Rattle.std.proofs.lemmas.Bool.{cases_lt, lt-ltb, le-ltb}
use Rattle.std.proofs.lemmas.Bool.Decides.{nat_tests}
use Rattle.std.proofs.lemmas.List.{length-map, get_or-map, length-append, get_or_append_left, get_or-append_right}
use Rattle.std.proofs.lemmas.Simd.{length-zip2, get_or-zip2, get_or-replicate, length-replicate, length-sel_l, get_or-sel_l, Each1-from_get_or, Each1-get_or}
use Rattle.std.proofs.lemmas.Grind.{get_or_default_zero}
use Rattle.std.specs.Simd.Lanes.{zip2, sel_l, pick_l, all_below, Each1}

-- lane k of n lanes holds f k
pub record Has {A : Type 0} (n : ℕ) (xs : List A) (f : ℕ → A) : Type 0 where
  pub long : length xs ≡ n
  pub each : (d : A) (k : ℕ) → k < n → get_or xs k d ≡ f k

pub has_given : (n : ℕ) (xs : List ℕ) → length xs ≡ n → Has n xs (λ k. get_or xs k 0)
has_given n xs p = record {
  long = p;
  each = λ d k l. get_or_default_zero xs k d (omega (arith, l, p));
}

pub has_splat : {A : Type 0} (n : ℕ) (a : A) → Has n (replicate n a) (λ _. a)
has_splat n a = record {
  long = length-replicate n a;
  each = λ d k l. get_or-replicate n k a d l;
}

pub has_map : {A B : Type 0} (n : ℕ) (h : A → B) (xs : List A) (f : ℕ → A) → Has n xs f → Has n (map h xs) (λ k. h (f k))
has_map n h xs f p = record {
  long = length-map xs h ∙ p.long;
  each = λ d k l.
      let inside : k < length xs = omega (arith, l, p.long) in
      get_or-map h xs k (f 0) d inside ∙ ap h (p.each (f 0) k l);
}

pub has_zip2 : {A B C : Type 0} (n : ℕ) (h : A → B → C) (xs : List A) (ys : List B) (f : ℕ → A) (g : ℕ → B) → Has n xs f → Has n ys g → Has n (zip2 h xs ys) (λ k. h (f k) (g k))
has_zip2 n h xs ys f g p q = record {
  long = length-zip2 h xs ys (p.long ∙ sym q.long) ∙ p.long;
  each = λ d k l.
      let first : k < length xs = omega (arith, l, p.long) in
      let second : k < length ys = omega (arith, l, q.long) in
      get_or-zip2 h xs ys k (f 0) (g 0) d first second ∙ ap₂ h (p.each (f 0) k l) (q.each (g 0) k l);
}

pub has_sel : {A : Type 0} (n : ℕ) (ms : List Bool) (xs ys : List A) (m : ℕ → Bool) (f g : ℕ → A) → Has n ms m → Has n xs f → Has n ys g → Has n (sel_l ms xs ys) (λ k. cond (m k) (f k) (g k))
has_sel n ms xs ys m f g o p q = record {
  long = length-sel_l ms xs ys (o.long ∙ sym p.long) (o.long ∙ sym q.long) ∙ o.long;
  each = λ d k l.
      let mask : k < length ms = omega (arith, l, o.long) in
      let first : k < length xs = omega (arith, l, p.long) in
      let second : k < length ys = omega (arith, l, q.long) in
      get_or-sel_l ms xs ys k d mask first second ∙ (λ i. cond (o.each false k l i) (p.each d k l i) (q.each d k l i));
}

-- the lanes of two vectors, one after the other
abbrev pub joined : {A : Type 0} → ℕ → (f g : ℕ → A) → ℕ → A
joined n f g k = cond (nat_lt k n) (f k) (g (k - n))

pub has_join : {A : Type 0} (n m : ℕ) (xs ys : List A) (f g : ℕ → A) → Has n xs f → Has m ys g → Has (n + m) (xs ++ ys) (joined n f g)
has_join n m xs ys f g p q = record {
  long = length-append xs ys ∙ ap₂ (λ a b. a + b) p.long q.long;
  each = λ d k l.
      elim (cases_lt k n) [
        | inl a ↦ rw (lt-ltb k n a) (get_or_append_left xs ys d k (omega (arith, a, p.long)) ∙ p.each d k a)
        | inr b ↦ rw (le-ltb k n b) (get_or-append_right xs ys n k d p.long b ∙ q.each d (k - n) (omega (arith, b, l)))
      ];
}

-- the lanes at positions
all_at : (n : ℕ) (ks : List ℕ) (k : ℕ) → all_below n ks ≡ true → k < length ks → get_or ks k 0 < n
all_at n [] k h l = absurd (omega (arith, l))
all_at n (j ∷ ks) zero h l = below_first (nat_lt j n) (all_below n ks) h
  where
    below_first : (a b : Bool) → (a && b) ≡ true → j < n
    below_first a b e = grind (arith, nat_tests)
all_at n (j ∷ ks) (suc k) h l = all_at n ks k (rest (nat_lt j n) (all_below n ks) h) (omega (arith, l))
  where
    rest : (a b : Bool) → (a && b) ≡ true → b ≡ true
    rest true b e = e
    rest false b e = cc

pub has_pick : (n m : ℕ) (xs ks : List ℕ) (f : ℕ → ℕ) → Has n xs f → all_below n ks ≡ true → length ks ≡ m → Has m (pick_l 0 xs ks) (λ k. f (get_or ks k 0))
has_pick n m xs ks f p small long = record {
  long = length-map ks (λ k. get_or xs k 0) ∙ long;
  each = λ d k l.
      let inside : k < length ks = omega (arith, l, long) in
      get_or-map (λ i. get_or xs i 0) ks k 0 d inside ∙ p.each 0 (get_or ks k 0) (all_at n ks k small inside);
}

pub has_each : {A : Type 0} (n : ℕ) (P : A → Type 0) (xs : List A) (f : ℕ → A) → Has n xs f → ((k : ℕ) → k < n → P (f k)) → Each1 P xs
has_each n P xs f p v =
    Each1-from_get_or P xs (f 0)
    (λ k l.
    let inside : k < n = omega (arith, l, p.long) in
    subst P (sym (p.each (f 0) k inside)) (v k inside))

pub byte_below : (n : ℕ) (xs : List ℕ) (k : ℕ) → (length xs ≡ n) × Each1 (Fits w8) xs → k < n → get_or xs k 0 < 256
byte_below n xs k fits l = (Each1-get_or (Fits w8) xs k 0 (omega (arith, l, fits.0)) fits.1).fits

-- a predicate that holds for each of eight numbers, or of sixteen
pub below_eight : (P : ℕ → Type 0) → P 0 → P 1 → P 2 → P 3 → P 4 → P 5 → P 6 → P 7 → (i : ℕ) → i < 8 → P i
below_eight P p0 p1 p2 p3 p4 p5 p6 p7 zero h = p0
below_eight P p0 p1 p2 p3 p4 p5 p6 p7 (suc zero) h = p1
below_eight P p0 p1 p2 p3 p4 p5 p6 p7 (suc (suc zero)) h = p2
below_eight P p0 p1 p2 p3 p4 p5 p6 p7 (suc (suc (suc zero))) h = p3
below_eight P p0 p1 p2 p3 p4 p5 p6 p7 (suc (suc (suc (suc zero)))) h = p4
below_eight P p0 p1 p2 p3 p4 p5 p6 p7 (suc (suc (suc (suc (suc zero))))) h = p5
below_eight P p0 p1 p2 p3 p4 p5 p6 p7 (suc (suc (suc (suc (suc (suc zero)))))) h = p6
below_eight P p0 p1 p2 p3 p4 p5 p6 p7 (suc (suc (suc (suc (suc (suc (suc zero))))))) h = p7
below_eight P p0 p1 p2 p3 p4 p5 p6 p7 (suc (suc (suc (suc (suc (suc (suc (suc i)))))))) h = absurd (omega arith)

pub below_sixteen : (P : ℕ → Type 0) → P 0 → P 1 → P 2 → P 3 → P 4 → P 5 → P 6 → P 7 → P 8 → P 9 → P 10 → P 11 → P 12 → P 13 → P 14 → P 15 → (i : ℕ) → i < 16 → P i
below_sixteen P p0 p1 p2 p3 p4 p5 p6 p7 p8 p9 p10 p11 p12 p13 p14 p15 i h =
    elim (cases_lt i 8) [
      | inl a ↦ below_eight P p0 p1 p2 p3 p4 p5 p6 p7 i a
      | inr b ↦
          let e : 8 + (i - 8) ≡ i = omega (arith, b) in
          subst P e (below_eight (λ k. P (8 + k)) p8 p9 p10 p11 p12 p13 p14 p15 (i - 8) (omega (arith, b, h)))
    ]
