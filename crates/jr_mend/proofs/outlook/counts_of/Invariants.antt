use Rattle.std.proofs.Common.{◌≡◌, ◌+◌, ◌-◌, ◌≤◌, drop, length}
use Rattle.jr_mend.specs.Markers.{has_end, scan_markers, restarts, scan_bytes}
use Rattle.jr_mend.proofs.outlook.counts_of.Given as goal

abbrev pub invariant-markers : goal.invariant-markers
invariant-markers l = record {
  within : l.size ≤ length l.bytes;
  few : l.restarts ≤ l.size;
  size : scan_bytes (scan_markers l.intervals l.bytes) ≡ l.size + scan_bytes (scan_markers l.intervals (drop l.size l.bytes));
  restarts : restarts (scan_markers l.intervals l.bytes) ≡ l.restarts + restarts (scan_markers l.intervals (drop l.size l.bytes));
  end : has_end (scan_markers l.intervals l.bytes) ≡ has_end (scan_markers l.intervals (drop l.size l.bytes));
}

abbrev pub decreases-markers : goal.decreases-markers
decreases-markers l = length l.bytes - l.size
