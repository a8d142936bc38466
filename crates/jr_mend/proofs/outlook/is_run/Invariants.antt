use Rattle.std.proofs.Common.{◌≡◌, ◌+◌, ◌-◌, ◌≤◌, ◌^◌, drop, length}
use Rattle.jr_mend.specs.Markers.{is_run, scan_markers}
use Rattle.jr_mend.specs.declared.outlook.TheConstants.{SURE_BYTES}
use Rattle.jr_mend.proofs.outlook.is_run.Given as goal

abbrev pub invariant-markers : goal.invariant-markers
invariant-markers l = record {
  within : l.at ≤ length l.bytes;
  few : l.due ≤ 2 ^ 8 + l.at;
  run : is_run l.number SURE_BYTES (scan_markers l.intervals l.bytes) ≡ is_run l.due (SURE_BYTES - l.at) (scan_markers l.intervals (drop l.at l.bytes));
}

abbrev pub decreases-markers : goal.decreases-markers
decreases-markers l = length l.bytes - l.at
