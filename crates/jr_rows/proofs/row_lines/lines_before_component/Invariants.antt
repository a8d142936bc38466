use Rattle.std.proofs.Common.{◌≡◌, ◌*◌, ◌≤◌}
use Rattle.jr_rows.specs.Groups.{lines_before_component}
use Rattle.jr_rows.proofs.row_lines.lines_before_component.Given as goal

abbrev pub invariant-loop-k : goal.invariant-loop-k
invariant-loop-k l = record {
  value : l.lines ≡ lines_before_component l.head l.k;
  few : l.lines ≤ 32 * l.k;
}
