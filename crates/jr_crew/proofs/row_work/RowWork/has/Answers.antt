use Rattle.std.proofs.Common.{rules, arith, sym, subst, ap, eqb, ◌≡◌, ◌<◌, ◌%◌, ◌∙◌, ℕ, List, Option, Some, length, get_or}
use Rattle.std.specs.Prelude.{IsTrue}
use Rattle.std.proofs.lemmas.Option.{slice_get-get_or}
use Rattle.jr_crew.specs.RowValues.{PaintedValue}
use Rattle.jr_crew.specs.Crew.{HasRow, HoldsRow}
use Rattle.jr_crew.proofs.row_work.RowWork.has.Goals as goal

-- the slot of a row holds it if it holds a row of that number
holds : (slots : List (Option PaintedValue)) (n row own : ℕ) (slot : Option PaintedValue) (p : PaintedValue) → 0 < length slots → n ≡ length slots → slot ≡ get_or slots (row % n) slot → slot ≡ Some p → own ≡ p.row → own ≡ row → HasRow slots row
holds slots n row own slot p some long is there mine same =
    let inside : row % length slots < length slots = omega arith in
    let found = slice_get-get_or slots (row % length slots) slot inside ∙ ap Some (ap (λ (k : ℕ). get_or slots (row % k) slot) (sym long) ∙ sym is ∙ there) in
    subst (λ (s : Option (Option PaintedValue)). HoldsRow s row) (sym found) (sym mine ∙ same)

same_number : (a b : ℕ) → IsTrue (eqb a b) → a ≡ b
same_number a b is = search rules

pub returns-in-Some : goal.returns-in-Some
returns-in-Some g c =
    let slots = c.args.self.now.painted in
    let own : IsTrue (eqb c.row.result c.args.row) → HasRow slots.items c.args.row
    = λ is. holds slots.items c.len.result c.args.row c.row.result c.index.result.now c.in-Some.painted c.args.self.now.some (c.len.ensures ∙ slots.ok.0) c.index.ensures c.in-Some.is c.row.ensures (same_number c.row.result c.args.row is) in
    search own
