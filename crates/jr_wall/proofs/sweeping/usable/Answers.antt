use Rattle.std.specs.Arc.{arc_value}
use Rattle.jr_wall.proofs.Sweeps.{new_blank, new_same}
use Rattle.jr_wall.proofs.sweeping.usable.Goals as goal

pub returns-clause-scan : goal.returns-clause-scan
returns-clause-scan c = new_same c.new.result (arc_value c.in_ok-try_clone.field-0) (arc_value c.args.scan.now) c.in_ok-try_clone.ensures c.new.ensures.scan

pub returns-clause-blank : goal.returns-clause-blank
returns-clause-blank c = new_blank c.new.result _ c.args.n c.new.ensures.blank
