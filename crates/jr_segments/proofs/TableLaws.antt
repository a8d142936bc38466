-- Tables one after the other, and the last definition of a destination.
use Rattle.std.proofs.Common.{◌≡◌, ◌≢◌, ℕ, zero, suc, ◌-◌, ◌<◌, ◌≤◌, Bool, true, false, List, [], ◌∷◌, ◌++◌, length, get_or, take, drop, Option, Some, None, refl, sym, ap, ◌∙◌, arith}
use Rattle.std.specs.Prelude.{is_some, if◌then◌else◌}
use Rattle.std.specs.Prelude.{map}
use Rattle.std.specs.List.{flat_map}
use Rattle.std.proofs.lemmas.List.{take_all}
use Rattle.std.proofs.lemmas.List.Concat.{flat_map-cons}
use Rattle.jr_segments.specs.declared.refusal.Refusal.{Refusal}
use Rattle.jr_segments.specs.declared.refusal.Refusal.TheVariants.{Memory}
use Rattle.jr_segments.specs.Tests.{Test, first_fault}
use Rattle.jr_segments.proofs.TestLaws.{Refuses, first_append, obeys_front}
use Rattle.jr_segments.specs.Tables.{tables_after, tables, last_where}

tables_skip : (size : ℕ → List ℕ → ℕ) (k : ℕ) (bs : List ℕ) → tables_after size k bs ≡ tables_after size 0 (drop k bs)
tables_skip size zero [] = refl
tables_skip size (suc k) [] = refl
tables_skip size zero (b ∷ bs) = refl
tables_skip size (suc k) (b ∷ bs) = tables_skip size k bs

-- the first table, as the slice that the code reads
pub tables_first : (size : ℕ → List ℕ → ℕ) (s : List ℕ) → 1 ≤ length s
    → tables size s ≡ (get_or s 0 0, take (length s - 1) (drop 1 s)) ∷ tables size (drop (size (get_or s 0 0) (take (length s - 1) (drop 1 s))) (take (length s - 1) (drop 1 s)))
unfolding tables
tables_first size [] h = absurd (omega (arith, h))
tables_first size (b ∷ bs) h =
    let e : take (length (b ∷ bs) - 1) bs ≡ bs = take_all (length (b ∷ bs) - 1) bs (omega arith) in
    rw e (ap (λ (t : List (ℕ × List ℕ)). (b, bs) ∷ t) (tables_skip size (size b bs) bs))

pub tables_none : (size : ℕ → List ℕ → ℕ) (s : List ℕ) → length s < 1 → tables size s ≡ []
unfolding tables
tables_none size [] h = refl
tables_none size (b ∷ bs) h = absurd (omega (arith, h))

push_case : {T : Type 0} (y x : T) (b c : Bool) (l : Option T) →
    (if is_some (if b then Some x else l) then (if b then Some x else l) else (if c then Some y else None)) ≡ (if b then Some x else (if is_some l then l else (if c then Some y else None)))
push_case y x true c l = refl
push_case y x false c l = refl

pub last_push : {T : Type 0} (p : T → Bool) (xs : List T) (x : T) → last_where p (xs ++ x ∷ []) ≡ (if p x then Some x else last_where p xs)
unfolding last_where
last_push p [] x = refl
last_push p (y ∷ ys) x = rw (last_push p ys x) (push_case y x (p x) (p y) (last_where p ys))

abbrev pub hd : List ℕ → ℕ
hd s = get_or s 0 0

abbrev pub tl : List ℕ → List ℕ
tl s = take (length s - 1) (drop 1 s)

-- ---- the tests of tables

pub tests_split : (size : ℕ → List ℕ → ℕ) (f : ℕ × List ℕ → List Test) (s after : List ℕ) → 1 ≤ length s → after ≡ drop (size (hd s) (tl s)) (tl s)
    → flat_map f (tables size s) ≡ f (hd s, tl s) ++ flat_map f (tables size after)
tests_split size f s after h e =
    ap (flat_map f) (tables_first size s h) ∙ flat_map-cons f (hd s, tl s) (tables size (drop (size (hd s) (tl s)) (tl s)))
    ∙ ap (λ (t : List ℕ). f (hd s, tl s) ++ flat_map f (tables size t)) (sym e)

pub tests_go_on : (size : ℕ → List ℕ → ℕ) (f : ℕ × List ℕ → List Test) (s after : List ℕ) (total : Option Refusal) → 1 ≤ length s → after ≡ drop (size (hd s) (tl s)) (tl s)
    → first_fault (f (hd s, tl s)) ≡ None → first_fault (flat_map f (tables size s)) ≡ total → first_fault (flat_map f (tables size after)) ≡ total
tests_go_on size f s after total h e passes k =
    sym (ap first_fault (tests_split size f s after h e) ∙ first_append (f (hd s, tl s)) (flat_map f (tables size after)) passes) ∙ k

pub tests_stop : (size : ℕ → List ℕ → ℕ) (f : ℕ × List ℕ → List Test) (s : List ℕ) (total : Option Refusal) (r : Refusal) → 1 ≤ length s
    → Refuses r (f (hd s, tl s)) → first_fault (flat_map f (tables size s)) ≡ total → r ≢ Memory → total ≡ Some r
tests_stop size f s total r h fault k n =
    sym k ∙ ap first_fault (tests_split size f s (drop (size (hd s) (tl s)) (tl s)) h refl)
    ∙ obeys_front (f (hd s, tl s)) (flat_map f (tables size (drop (size (hd s) (tl s)) (tl s)))) r fault n

pub tests_end : (size : ℕ → List ℕ → ℕ) (f : ℕ × List ℕ → List Test) (s : List ℕ) (total : Option Refusal) → length s < 1
    → first_fault (flat_map f (tables size s)) ≡ total → total ≡ None
tests_end size f s total h k = sym k ∙ ap (λ (t : List (ℕ × List ℕ)). first_fault (flat_map f t)) (tables_none size s h)

pub map_split : {T : Type 0} (size : ℕ → List ℕ → ℕ) (g : ℕ × List ℕ → T) (s after : List ℕ) → 1 ≤ length s → after ≡ drop (size (hd s) (tl s)) (tl s)
    → map g (tables size s) ≡ g (hd s, tl s) ∷ map g (tables size after)
map_split size g s after h e = ap (map g) (tables_first size s h) ∙ ap (λ (t : List ℕ). g (hd s, tl s) ∷ map g (tables size t)) (sym e)
