use Rattle.std.specs.Prelude.{◌≤◌}
use Rattle.jr_scan.specs.ScanValue.{interval_of}
use Rattle.jr_scan.specs.Cursors.{IsReading}
use Rattle.jr_damage.proofs.Skipping.{reading}
use Rattle.jr_damage.proofs.damage.skip_all_by.Given as goal

abbrev pub invariant-loop : goal.invariant-loop
invariant-loop g l = IsReading (reading (interval_of l.scan l.i) l.cursor.mcu l.cursor.place) × (l.counter ≤ l.cursor.mcu)
