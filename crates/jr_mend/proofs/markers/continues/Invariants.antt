use Rattle.std.proofs.Common.{◌≡◌, ◌-◌, ◌≤◌, drop, length}
use Rattle.jr_mend.specs.declared.markers.TheConstants.{MAX_STRAY}
use Rattle.jr_mend.specs.Markers.{continues, markers_in}
use Rattle.jr_mend.proofs.markers.continues.Given as goal

abbrev pub invariant-markers : goal.invariant-markers
invariant-markers l = record {
  within : l.at ≤ length l.bytes;
  same : continues MAX_STRAY (markers_in 0 l.bytes) ≡ continues l.others (markers_in 0 (drop l.at l.bytes));
}

abbrev pub decreases-markers : goal.decreases-markers
decreases-markers l = length l.bytes - l.at
