use Rattle.std.proofs.Common.{◌≡◌, ◌+◌, ◌-◌, ◌≤◌}
use Rattle.jr_rows.specs.Cursors.{IsCursorOf, mcus_to}
use Rattle.jr_rows.proofs.intervals.skip_mcus.Given as goal

abbrev pub invariant-mcus : goal.invariant-mcus
invariant-mcus l = record {
  within : l.left ≤ l.fn.mcus;
  lies : IsCursorOf l.fn.scan l.cursor;
  moved : mcus_to l.fn.scan.head l.cursor ≡ mcus_to l.fn.scan.head l.initial.cursor + (l.fn.mcus - l.left);
}

abbrev pub decreases-mcus : goal.decreases-mcus
decreases-mcus l = l.left
