use Rattle.std.proofs.Common.{Option, sym, subst}
use Rattle.jr_scan.specs.FirstIntervalsValue.{FirstIntervalsValue}
use Rattle.jr_crew.specs.Crew.{HaveNext}
use Rattle.jr_crew.proofs.baton.Baton.with_speculations.Goals as goal

pub invariant_of-result : goal.invariant_of-result
invariant_of-result g c =
    let was = subst (λ (k : Option FirstIntervalsValue). HaveNext k c.self.inside.rows c.self.inside.speculations) c.requires.part c.self.invariant in
    subst (λ (k : Option FirstIntervalsValue). HaveNext k c.self.inside.rows c.of.result) (sym c.requires.part)
    (record { rows = was.rows; row = was.row; speculations = c.of.ensures c.args.part.now.scan c.requires.speculations })
