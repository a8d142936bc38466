use Rattle.std.proofs.Common.{rules, arith, subst, Option}
use Rattle.jr_scan.specs.FirstIntervalsValue.{FirstIntervalsValue}
use Rattle.jr_crew.specs.Crew.{HaveNext}
use Rattle.jr_crew.proofs.baton.Baton.after.Goals as goal

pub overflow_add-row : goal.overflow_add-row
overflow_add-row g c =
    let next = subst (λ (k : Option FirstIntervalsValue). HaveNext k c.self.inside.rows c.self.inside.speculations) c.requires c.self.invariant in
    search (rules, arith, next.row)
