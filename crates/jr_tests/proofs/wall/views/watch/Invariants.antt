use Rattle.std.proofs.Common.{◌≡◌}
use Rattle.jr_tests.proofs.wall.views.watch.Given as goal

abbrev pub invariant-loop : goal.invariant-loop
invariant-loop l = l.view.sight.cells ≡ l.cells
