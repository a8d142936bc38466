use Rattle.std.proofs.Common.{◌≡◌}
use Rattle.jr_tests.proofs.wall.views.look_over.Given as goal

abbrev pub invariant-loop-i : goal.invariant-loop-i
invariant-loop-i l = l.view.sight.cells ≡ l.cells
