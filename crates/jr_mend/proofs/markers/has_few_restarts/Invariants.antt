use Rattle.std.proofs.Common.{◌≡◌, ◌+◌, ◌-◌, ◌≤◌, drop, length}
use Rattle.jr_mend.specs.Markers.{markers_in, restarts}
use Rattle.jr_mend.proofs.markers.has_few_restarts.Given as goal

abbrev pub invariant-markers : goal.invariant-markers
invariant-markers l = record {
  within : l.at ≤ length l.bytes;
  left : restarts (markers_in 0 l.bytes) + l.left ≡ restarts (markers_in 0 (drop l.at l.bytes)) + l.intervals;
}

abbrev pub decreases-markers : goal.decreases-markers
decreases-markers l = length l.bytes - l.at
