use Rattle.std.proofs.Common.{◌≡◌, ◌-◌, ◌≤◌, drop, length}
use Rattle.jr_mend.specs.Markers.{counted_back, scan_markers, restarts}
use Rattle.jr_mend.proofs.MarkersLaw.{joined}
use Rattle.jr_mend.proofs.outlook.counted_back.Given as goal

abbrev pub invariant-markers : goal.invariant-markers
invariant-markers l = record {
  within : l.at ≤ length l.bytes;
  few : l.run ≤ l.at;
  left : l.left ≡ restarts (scan_markers l.intervals (drop l.at l.bytes));
  counted : counted_back l.intervals (scan_markers l.intervals l.bytes) ≡ joined l.intervals l.run (scan_markers l.intervals (drop l.at l.bytes));
}

abbrev pub decreases-markers : goal.decreases-markers
decreases-markers l = length l.bytes - l.at
