-- Each step of the desk keeps its rule.
use Rattle.std.proofs.Common.{◌≡◌, ℕ, zero, suc, ◌+◌, ◌-◌, ◌%◌, ◌^◌, ◌<◌, ◌≤◌, min, true, false, cond, eqb, ltb, List, [], ◌∷◌, ◌++◌, length, get_or, set, sym, refl, ap, ◌∙◌, subst, arith, length-append, length-set, get_or-set_same, get_or-set_other, lt-ltb, le-ltb, ⊎_elim}
use mathlib.Core.Option.{none, some, some-injective, some-ne-none}
use mathlib.Core.Logic.{dite}
use native.Mathlib.Decide.{dec_le}
use lib.ListN.{get_elem?}
use Rattle.std.proofs.lemmas.Bool.Decides.{nat_tests}
use Rattle.atomic_table.specs.Table.{State, Me, step, keeps, stepped, Allows, Splits, Joins}
use Rattle.atomic_table.proofs.Lists.{at_set, at_snoc}
use Rattle.jr_cells.specs.declared.claims.SeatView.{SeatView}
use Rattle.jr_cells.specs.Count.{total, times, once_below}
use Rattle.jr_cells.specs.Draws.{view, Fits, Dealt, Stated}

module _ {X : Type 0} (f : X → ℕ) where
  pub total_set : (l : List X) (i : ℕ) (v w : X) → get_elem? l i ≡ some v → total f (set l i w) + f v ≡ total f l + f w
  total_set [] i v w e = absurd (some-ne-none v (sym e))
  total_set (x ∷ xs) zero v w e = let is : f x ≡ f v = ap f (some-injective x v e) in omega arith
  total_set (x ∷ xs) (suc i) v w e = let r = total_set xs i v w e in omega arith

  pub total_snoc : (l : List X) (v : X) → total f (l ++ v ∷ []) ≡ total f l + f v
  total_snoc [] v = omega arith
  total_snoc (x ∷ xs) v = let r = total_snoc xs v in omega arith

  pub total_le : (g : X → ℕ) (l : List X) → ((i : ℕ) (v : X) → get_elem? l i ≡ some v → f v ≤ g v) → total f l ≤ total g l
  total_le g [] h = omega arith
  total_le g (x ∷ xs) h = let a = h zero x refl in let r = total_le g xs (λ i. h (suc i)) in omega arith

pub times-append : (x : ℕ) (xs ys : List ℕ) → times x (xs ++ ys) ≡ times x xs + times x ys
times-append x [] ys = omega arith
times-append x (z ∷ zs) ys = let r = times-append x zs ys in omega arith

-- one more number is below the bound
pub once_more : (x m : ℕ) → once_below x (m + 1) ≡ once_below x m + cond (eqb m x) 1 0
once_more x m = grind (arith, nat_tests)

-- the rule after a step of one seat on word 0
placed : (n k : ℕ) (s : State (Unit {0}) SeatView) → Dealt n k s → (id : ℕ) (v w : SeatView) (c : List (ℕ × Unit {0})) → get_elem? s.views id ≡ some v → (m : ℕ)
    → get_or s.words 0 0 ≤ m
    → ((x : ℕ) → times x w.drawn + once_below x (min (get_or s.words 0 0) n) ≡ times x v.drawn + once_below x (min m n))
    → length w.drawn + min (get_or s.words 0 0) n ≡ length v.drawn + min m n
    → w.seats ≡ v.seats
    → ((t t' : ℕ) → get_or s.words 0 0 ≤ n + t → t' + v.ended ≡ t + w.ended → m ≤ n + t')
    → Fits n k m w
    → Dealt n k (stepped s 0 m id c w keeps)
placed n k s r id v w c at m up once drawn seats over fit =
    let long : 0 < length s.words = omega (arith, r.words) in
    let here : get_or (set s.words 0 m) 0 0 ≡ m = get_or-set_same s.words 0 m 0 long in
    record {
      words = length-set s.words 0 m ∙ r.words;
      second = get_or-set_other s.words 0 1 m 0 (omega arith) ∙ r.second;
      fits = r.fits;
      few = r.few;
      once = λ x. rw here (let a = total_set (λ (u : SeatView). times x u.drawn) s.views id v w at in let b = r.once x in let d = once x in omega arith);
      drawn = rw here (let a = total_set (λ (u : SeatView). length u.drawn) s.views id v w at in let b = r.drawn in omega arith);
      seats = let a = total_set (λ (u : SeatView). u.seats) s.views id v w at in let b = r.seats in omega arith;
      over = rw here (let a = total_set (λ (u : SeatView). u.ended) s.views id v w at in over (total (λ (u : SeatView). u.ended) s.views) (total (λ (u : SeatView). u.ended) (set s.views id w)) r.over a);
      each = λ i u e. rw here (⊎_elim (λ t. subst (Fits n k m) t.1 fit) (λ t. let f = r.each i u t.1 in record { limit = f.limit; all = f.all; idle = f.idle; ended = f.ended; past = λ h. let p = f.past h in omega arith }) (at_set s.views id i w u e));
    }

-- Word 0 stays far below 2 ^ 64
ample : (n k : ℕ) (s : State (Unit {0}) SeatView) → Dealt n k s → get_or s.words 0 0 + 1 < 2 ^ 64
ample n k s r =
    let a = total_le (λ (u : SeatView). u.ended) (λ (u : SeatView). u.seats) s.views (λ i v e. (r.each i v e).ended) in
    let b = r.over in let d = r.seats in let e = r.few in let f = r.fits in omega arith

pub claims : (n k slots id : ℕ) (me : Me (Unit {0}) SeatView) → me.0.seats ≡ 1 → me.0.ended ≡ 0 → Allows (Dealt n k) slots id me 0 (λ w. (w + 1) % 2 ^ 64) (Stated (step slots 0 1 0 none) me)
claims n k slots id me one going s r _ at small =
    let v = me.0 in
    let x : ℕ = get_or s.words 0 0 in
    let f = r.each id v at in
    let limit : v.limit ≡ n = f.limit (omega arith) in
    let space : x + 1 < 2 ^ 64 = ample n k s r in
    let next : x + 1 ≡ (x + 1) % 2 ^ 64 = omega arith in
    let P : ℕ → SeatView → Type 0 = λ m w. Dealt n k (stepped s 0 m id me.1 w keeps) in
    dite (dec_le n x)
    (λ past.
    let beyond : n ≤ x = past in
    let w = view v.limit v.all v.drawn v.seats (v.ended + 1) in (
      w,
      keeps,
      tt,
      subst (λ (m : ℕ). P m w) next
          (placed n k s r id v w me.1 at (x + 1) (omega arith)
          (λ y. let e : min x n ≡ min (x + 1) n = omega arith in ap (λ (m : ℕ). times y v.drawn + once_below y m) e)
          (omega arith) refl (λ t t' a b. omega arith)
          record { limit = f.limit; all = f.all; idle = f.idle; ended = omega arith; past = λ _. omega arith }),
      (refl, let t : ltb x v.limit ≡ false = le-ltb x v.limit (omega arith) in rw t refl),
    ))
    (λ below.
    let w = view v.limit v.all (v.drawn ++ x ∷ []) v.seats v.ended in
    let small : x < n = omega arith in
    let now : min x n ≡ x = omega arith in
    let then : min (x + 1) n ≡ x + 1 = omega arith in
    let many : length v.drawn ≤ x = let a = total_set (λ (u : SeatView). length u.drawn) s.views id v (view 0 0 [] 0 0) at in let b = r.drawn in omega arith in (
      w,
      keeps,
      tt,
      subst (λ (m : ℕ). P m w) next
          (placed n k s r id v w me.1 at (x + 1) (omega arith)
          (λ y. rw (now, then) (let a = times-append y v.drawn (x ∷ []) in let b = once_more y x in omega arith))
          (let a = length-append v.drawn (x ∷ []) in omega arith) refl (λ t t' a b. omega arith)
          record { limit = f.limit; all = f.all; idle = λ none. absurd (omega arith); ended = f.ended; past = λ h. absurd (omega arith) }),
      (refl, let t : ltb x v.limit ≡ true = lt-ltb x v.limit (omega arith) in rw t (refl, omega arith)),
    ))

pub splits : (n k id i j : ℕ) → i ≡ suc j → Splits (Dealt n k) id (view n k [] i 0) (view n k [] (i - 1) 0) (view n k [] 1 0)
splits n k id i' j is s r at =
    let v = view n k [] i' 0 in
    let w = view n k [] (i' - 1) 0 in
    let u = view n k [] 1 0 in
    let m = λ (f : SeatView → ℕ). total_snoc f (set s.views id w) u in
    record {
      words = r.words;
      second = r.second;
      fits = r.fits;
      few = r.few;
      once = λ x. let f = λ (q : SeatView). times x q.drawn in let a = total_set f s.views id v w at in let b = m f in let c = r.once x in omega arith;
      drawn = let f = λ (q : SeatView). length q.drawn in let a = total_set f s.views id v w at in let b = m f in let c = r.drawn in omega arith;
      seats = let f = λ (q : SeatView). q.seats in let a = total_set f s.views id v w at in let b = m f in let c = r.seats in omega arith;
      over = let f = λ (q : SeatView). q.ended in let a = total_set f s.views id v w at in let b = m f in let c = r.over in omega arith;
      each = λ i q e. ⊎_elim (λ e'. ⊎_elim (λ t. subst (Fits n k (get_or s.words 0 0)) t.1 record { limit = λ _. refl; all = λ _. refl; idle = λ _. refl; ended = omega arith; past = λ h. absurd (omega arith) }) (λ t. r.each i q t.1) (at_set s.views id i w q e'))
          (λ t. subst (Fits n k (get_or s.words 0 0)) t record { limit = λ _. refl; all = λ _. refl; idle = λ _. refl; ended = omega arith; past = λ h. absurd (omega arith) })
          (at_snoc (set s.views id w) u q i e);
    }

pub joins : (n k id : ℕ) (v : SeatView) (other : ℕ) (w : SeatView) → 0 < v.seats
    → Joins (Dealt n k) id v other w (view v.limit v.all (v.drawn ++ w.drawn) (v.seats + w.seats) (v.ended + w.ended)) (view 0 0 [] 0 0)
joins n k id v other w held s r at apart at' =
    let b = view v.limit v.all (v.drawn ++ w.drawn) (v.seats + w.seats) (v.ended + w.ended) in
    let z = view 0 0 [] 0 0 in
    let l = set s.views id b in
    let f = r.each id v at in
    let g : Fits n k (get_or s.words 0 0) w = ⊎_elim (λ t. absurd (apart t.0)) (λ t. r.each other w t.1) (at_set s.views id other b w at') in
    record {
      words = r.words;
      second = r.second;
      fits = r.fits;
      few = r.few;
      once = λ x. let h = λ (q : SeatView). times x q.drawn in let a = total_set h s.views id v b at in let c = total_set h l other w z at' in let d = times-append x v.drawn w.drawn in let e = r.once x in omega arith;
      drawn = let h = λ (q : SeatView). length q.drawn in let a = total_set h s.views id v b at in let c = total_set h l other w z at' in let d = length-append v.drawn w.drawn in let e = r.drawn in omega arith;
      seats = let h = λ (q : SeatView). q.seats in let a = total_set h s.views id v b at in let c = total_set h l other w z at' in let e = r.seats in omega arith;
      over = let h = λ (q : SeatView). q.ended in let a = total_set h s.views id v b at in let c = total_set h l other w z at' in let e = r.over in omega arith;
      each = λ i q e. ⊎_elim
          (λ t. subst (Fits n k (get_or s.words 0 0)) t.1 record { limit = λ h. absurd (omega arith); all = λ h. absurd (omega arith); idle = λ _. refl; ended = omega arith; past = λ h. absurd (omega arith) })
          (λ t. ⊎_elim
          (λ p. subst (Fits n k (get_or s.words 0 0)) p.1 record { limit = λ _. f.limit held; all = λ _. f.all held; idle = λ h. absurd (omega arith); ended = let a = f.ended in let c = g.ended in omega arith; past = λ h. dite (dec_le 1 v.ended) (λ y. f.past y) (λ y. g.past (omega arith)) })
          (λ p. r.each i q p.1)
          (at_set s.views id i b q t.1))
          (at_set l other i z q e);
    }

module _ (g : SeatView → ℕ) where
  total_at : (l : List SeatView) (id : ℕ) (v : SeatView) → get_elem? l id ≡ some v → g v ≤ total g l
  total_at [] id v at = absurd (some-ne-none v (sym at))
  total_at (x ∷ xs) zero v at = let e : g x ≡ g v = ap g (some-injective x v at) in omega arith
  total_at (x ∷ xs) (suc id) v at = let r = total_at xs id v at in omega arith

  none_left : (f : SeatView → ℕ) (l : List SeatView) → total g l ≡ 0 → ((i : ℕ) (u : SeatView) → get_elem? l i ≡ some u → g u ≡ 0 → f u ≡ 0) → total f l ≡ 0
  none_left f [] e h = refl
  none_left f (x ∷ xs) e h = let a = h zero x refl (omega arith) in let r = none_left f xs (omega arith) (λ i. h (suc i)) in omega arith

  -- one view has all of g, and f is nothing wherever g is nothing
  pub lone : (f : SeatView → ℕ) (l : List SeatView) (id : ℕ) (v : SeatView) → get_elem? l id ≡ some v → total g l ≡ g v → ((i : ℕ) (u : SeatView) → get_elem? l i ≡ some u → g u ≡ 0 → f u ≡ 0) → total f l ≡ f v
  lone f [] id v at e h = absurd (some-ne-none v (sym at))
  lone f (x ∷ xs) zero v at e h =
      let same = some-injective x v at in let a : g x ≡ g v = ap g same in let b : f x ≡ f v = ap f same in
      let r = none_left f xs (omega arith) (λ i. h (suc i)) in omega arith
  lone f (x ∷ xs) (suc id) v at e h =
      let a = total_at xs id v at in let b = h zero x refl (omega arith) in let r = lone f xs id v at (omega arith) (λ i. h (suc i)) in omega arith

-- a view that has all seats has all that was drawn
pub has_all : (n k : ℕ) (s : State (Unit {0}) SeatView) (id : ℕ) (v : SeatView) → Dealt n k s → get_elem? s.views id ≡ some v → v.seats ≡ k → (x : ℕ) → times x v.drawn ≡ once_below x (min (get_or s.words 0 0) n)
has_all n k s id v r at all x =
    let a = lone (λ (u : SeatView). u.seats) (λ (u : SeatView). times x u.drawn) s.views id v at (r.seats ∙ sym all) (λ i u e none. ap (times x) ((r.each i u e).idle none)) in
    sym a ∙ r.once x
