use Rattle.std.proofs.Common.{◌<◌, ◌≤◌}
use Rattle.jr_mend.proofs.byte_runs.difference_end.Given as goal

abbrev pub invariant-loop-at : goal.invariant-loop-at
invariant-loop-at l = (l.fn.start < l.end) × (l.end ≤ l.at)
