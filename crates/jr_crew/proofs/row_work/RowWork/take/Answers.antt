use Rattle.std.proofs.Common.{rules, refl, sym, subst, ap, ◌∙◌, ◌≡◌, ◌%◌, ℕ, Option, Some, None, length, slice_get}
use Rattle.std.specs.Option.{IsSome}
use Rattle.std.proofs.lemmas.Option.{get_or_from_slice_get, same_Some}
use Rattle.jr_crew.specs.RowValues.{PaintedValue}
use Rattle.jr_crew.specs.Crew.{HoldsRow}
use Rattle.jr_crew.proofs.row_work.RowWork.take.Goals as goal

-- what a slot that holds a row contains
held : (slot : Option (Option PaintedValue)) (row : ℕ) → HoldsRow slot row → (p : PaintedValue) × (slot ≡ Some (Some p)) × (p.row ≡ row)
held None row holds = absurd holds
held (Some None) row holds = absurd holds
held (Some (Some p)) row holds = (p, refl, holds)

pub unwrap-requires : goal.unwrap-requires
unwrap-requires g c =
    let slots = c.args.self.now.painted in
    let here = held (slice_get slots.items (c.args.row % length slots.items)) c.args.row c.requires in
    let there = ap (λ (n : ℕ). slice_get slots.items (c.args.row % n)) (c.len.ensures ∙ slots.ok.0) ∙ here.1 in
    let taken = c.take.ensures.value ∙ c.index_mut.ensures.value ∙ get_or_from_slice_get slots.items (c.args.row % c.len.result) (Some here.0) _ there in
    subst (λ (o : Option PaintedValue). IsSome o) (sym taken) (search rules)

pub returns : goal.returns
returns g c =
    let slots = c.args.self.now.painted in
    let here = held (slice_get slots.items (c.args.row % length slots.items)) c.args.row c.requires in
    let there = ap (λ (n : ℕ). slice_get slots.items (c.args.row % n)) (c.len.ensures ∙ slots.ok.0) ∙ here.1 in
    let taken = c.take.ensures.value ∙ c.index_mut.ensures.value ∙ get_or_from_slice_get slots.items (c.args.row % c.len.result) (Some here.0) _ there in
    let same = same_Some here.0 c.unwrap.result (sym taken ∙ c.unwrap.ensures) in
    ap (λ (p : PaintedValue). p.row) (sym same) ∙ here.2
