use Rattle.std.proofs.Common.{◌≡◌, ℕ, rules, List, [], ◌∷◌, get_or, min, sym, ap, ◌∙◌}
use mathlib.Core.Option.{some, some-injective, some-ne-none}
use lib.ListN.{get_elem?}
use Rattle.jr_cells.specs.Values.{DeskValue}
use Rattle.jr_cells.specs.Count.{once_below}
use Rattle.jr_cells.proofs.Rule.{has_all}
use Rattle.jr_cells.proofs.claims.Desk.gather.Goals as goal

first : (l : List ℕ) (a : ℕ) → get_elem? l 0 ≡ some a → get_or l 0 0 ≡ a
first [] a e = absurd (some-ne-none a (sym e))
first (x ∷ xs) a e = some-injective x a e

pub returns-clause-drawn : goal.returns-clause-drawn
returns-clause-drawn c = λ x.
    let v = c.close_with-closed.ensures.values.2 in
    let key = c.self.invariant.2 in
    let whole = c.in-Some.ensures.seats ∙ c.requires.all ∙ ap (λ (d : DeskValue). d.seats) (sym c.self.view_is) ∙ sym (ap (λ k. k.1) key) in
    let all = has_all _ _ v.0 _ c.in-Some.pass.me.0 v.1.0 v.1.1 whole x in
    let word = ap (λ (l : List ℕ). get_or l 0 0) v.2 ∙ first _ _ c.word.ensures in
    let least = (λ i. min (word i) ((ap (λ k. k.0) key ∙ sym c.from.ensures) i)) ∙ sym c.min-drawn.ensures in
    search (rules, sym (c.in-Some.ensures.drawn x) ∙ all ∙ ap (once_below x) least)
