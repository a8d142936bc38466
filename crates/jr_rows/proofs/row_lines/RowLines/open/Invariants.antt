use Rattle.std.proofs.Common.{◌≡◌, ℕ, ◌<◌, length, slice_index_or}
use Rattle.jr_rows.specs.declared.row_lines.UnitStart.{UnitStart}
use Rattle.jr_rows.specs.RowLines.{IsStartOf}
use Rattle.jr_rows.proofs.row_lines.RowLines.open.Given as goal

abbrev pub invariant-loop-j : goal.invariant-loop-j
invariant-loop-j l = record {
  long : length l.starts.items ≡ l.j;
  each : (j : ℕ) (d : UnitStart) → j < l.j → IsStartOf l.head j (slice_index_or l.starts.items j d);
}
