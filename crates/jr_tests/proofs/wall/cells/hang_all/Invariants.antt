use Rattle.std.proofs.Common.{◌≡◌}
use Rattle.jr_tests.proofs.wall.cells.hang_all.Given as goal

abbrev pub invariant-loop-piece : goal.invariant-loop-piece
invariant-loop-piece l = l.sight.cells ≡ l.cells
