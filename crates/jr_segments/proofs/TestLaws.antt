-- The first failing test of tests one after the other.
use Rattle.std.proofs.Common.{◌≡◌, ◌≢◌, Bool, true, false, List, [], ◌∷◌, ◌++◌, Some, None, Result, refl}
use Rattle.std.specs.Result.{IsErrAnd}
use Rattle.std.proofs.lemmas.Result.{err_from_is_err_and}
use Rattle.jr_segments.specs.declared.refusal.Refusal.{Refusal}
use Rattle.jr_segments.specs.declared.refusal.Refusal.TheVariants.{Memory}
use Rattle.jr_segments.specs.Tests.{Test, first_fault, Obeys}

some_none : (t : Test) (ts ys : List Test) (b : Bool) → t.fails ≡ b → first_fault (t ∷ ts) ≡ None → (b ≡ false) × (first_fault ts ≡ None)
some_none t ts ys true e h = absurd (let k = rw e at h in cc)
some_none t ts ys false e h = (refl, rw e at h)

-- if no test fails, the first one passes, and so do the others
pub passes_first : (t : Test) (ts : List Test) → first_fault (t ∷ ts) ≡ None → (t.fails ≡ false) × (first_fault ts ≡ None)
passes_first t ts h = some_none t ts [] t.fails refl h

pub first_append : (xs ys : List Test) → first_fault xs ≡ None → first_fault (xs ++ ys) ≡ first_fault ys
first_append [] ys h = refl
first_append (t ∷ ts) ys h =
    let p = some_none t ts ys t.fails refl h in
    rw p.0 (first_append ts ys p.1)

passes_cons : (t : Test) (ts : List Test) → t.fails ≡ false → first_fault ts ≡ None → first_fault (t ∷ ts) ≡ None
passes_cons t ts e h = rw e h

pub passes_parts : (xs ys : List Test) → first_fault (xs ++ ys) ≡ None → (first_fault xs ≡ None) × (first_fault ys ≡ None)
passes_parts [] ys h = (refl, h)
passes_parts (t ∷ ts) ys h =
    let p = some_none t (ts ++ ys) [] t.fails refl h in
    let q = passes_parts ts ys p.1 in
    (passes_cons t ts p.0 q.0, q.1)

some_some : (t : Test) (ts : List Test) (r : Refusal) (b : Bool) → t.fails ≡ b → first_fault (t ∷ ts) ≡ Some r
    → (xs : List Test) → (first_fault ts ≡ Some r → first_fault xs ≡ Some r) → first_fault (t ∷ xs) ≡ Some r
some_some t ts r true e h xs f = rw e (rw e at h)
some_some t ts r false e h xs f = rw e (f (rw e at h))

pub first_front : (xs ys : List Test) (r : Refusal) → first_fault xs ≡ Some r → first_fault (xs ++ ys) ≡ Some r
first_front [] ys r h = absurd cc
first_front (t ∷ ts) ys r h = some_some t ts r t.fails refl h (ts ++ ys) (λ k. first_front ts ys r k)

-- both are one after the other
pub obeys_front : (xs ys : List Test) (r : Refusal) → (r ≢ Memory → first_fault xs ≡ Some r) → r ≢ Memory → first_fault (xs ++ ys) ≡ Some r
obeys_front xs ys r h n = first_front xs ys r (h n)

pub obeys_back : (xs ys : List Test) (r : Refusal) → first_fault xs ≡ None → (r ≢ Memory → first_fault ys ≡ Some r) → r ≢ Memory → first_fault (xs ++ ys) ≡ Some r
obeys_back xs ys r e h n = rw (first_append xs ys e) (h n)

pub none_both : (xs ys : List Test) → first_fault xs ≡ None → first_fault ys ≡ None → first_fault (xs ++ ys) ≡ None
none_both xs ys e h = rw (first_append xs ys e) h

-- a refusal of these tests, unless memory ran out
abbrev pub Refuses : Refusal → List Test → Type 0
Refuses r ts = r ≢ Memory → first_fault ts ≡ Some r

-- the exits of a function that obeys two lists of tests, one after the other
pub exit_first : {X : Type 0} (r : Result X Refusal) (e : Refusal) (xs ys : List Test) → IsErrAnd r (λ y. y ≡ e) → Refuses e xs → Obeys r (xs ++ ys)
exit_first r e xs ys is h = let p = err_from_is_err_and r is in rw (p.1, p.2) (obeys_front xs ys e h)

pub exit_second : {X : Type 0} (r : Result X Refusal) (e : Refusal) (xs ys : List Test) → IsErrAnd r (λ y. y ≡ e) → first_fault xs ≡ None → Refuses e ys → Obeys r (xs ++ ys)
exit_second r e xs ys is k h = let p = err_from_is_err_and r is in rw (p.1, p.2) (obeys_back xs ys e k h)

pub ruleset test_laws = (obeys_front, obeys_back, none_both)
