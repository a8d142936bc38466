use Rattle.std.proofs.Common.{◌≡◌}
use Rattle.jr_tests.proofs.wall.shown.are_in_cells.Given as goal

abbrev pub invariant-loop-i : goal.invariant-loop-i
invariant-loop-i l = l.sight.cells ≡ l.cells
