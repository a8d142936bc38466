-- What a worker that claims numbers of a desk at its seat knows.
use Rattle.std.proofs.Common.{◌≡◌, ℕ, ◌-◌, ◌<◌, ◌≤◌, List, [], ◌∷◌, ◌++◌, length, length-append, Option, Result, Ok, Err, IfOk, IfSome, refl, sym, ap, subst, ◌∙◌, arith}
use Rattle.std.proofs.lemmas.List.{append_assoc}
use Rattle.std.specs.Result.{result_ok}

-- the sight that was returned, if memory sufficed
pub sight_of : {T E : Type 0} (r : Result T E) (o : Option T) (P : T → Type 0) → o ≡ result_ok r → IfOk r P → IfSome o P
sight_of (Ok x) o P e h = subst (λ k. IfSome k P) (sym e) h
sight_of (Err x) o P e h = subst (λ k. IfSome k P) (sym e) tt

-- after one more number is drawn fewer are left
pub fewer_left : (limit v : ℕ) (old new : List ℕ) → length new ≤ limit → new ≡ old ++ v ∷ [] → limit - length new < limit - length old
fewer_left limit v old new few e =
    let one : length (v ∷ []) ≡ 1 = refl in
    omega (arith, few, ap length e, length-append old (v ∷ []), one)

-- all that was drawn since the beginning
pub drawn_more : (first old new : List ℕ) (v : ℕ) → (rest : List ℕ) × (old ≡ first ++ rest) → new ≡ old ++ v ∷ [] → (rest : List ℕ) × (new ≡ first ++ rest)
drawn_more first old new v was e = (was.0 ++ v ∷ [], e ∙ ap (λ (l : List ℕ). l ++ v ∷ []) was.1 ∙ append_assoc first was.0 (v ∷ []))
