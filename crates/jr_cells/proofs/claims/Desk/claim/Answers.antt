use Rattle.std.proofs.Common.{rules, ap, ◌∙◌, cond, arith}
use Rattle.std.proofs.lemmas.Grind.{common_steps}
use Rattle.jr_cells.proofs.Rule.{claims}
use Rattle.jr_cells.proofs.claims.Desk.claim.Goals as goal

pub fetch_add-found-requires : goal.fetch_add-found-requires
fetch_add-found-requires c =
    let i = c.seat.invariant in (
      search rules,
      search rules,
      claims _ _ _ _ c.seat.inside.pass.me i.1 (i.2 ∙ ap (λ b. cond b 1 0) c.if-seat.false),
    )

pub returns-then-found-from-clause-drawn : goal.returns-then-found-from-clause-drawn
returns-then-found-from-clause-drawn c = search rules

pub returns-then-seat-clause-ended : goal.returns-then-seat-clause-ended
returns-then-seat-clause-ended c = search rules

pub invariant_of-seat : goal.invariant_of-seat
invariant_of-seat c = grind (arith, common_steps)

pub overflow_add-seat : goal.overflow_add-seat
overflow_add-seat c = search rules
