use Rattle.std.specs.Prelude.{◌≤◌}
use Rattle.jri_engine.proofs.headers.describe_each.Given as goal

abbrev pub invariant-loop-k : goal.invariant-loop-k
invariant-loop-k g l = l.status ≤ 2
