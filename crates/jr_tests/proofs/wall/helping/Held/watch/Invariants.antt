use Rattle.std.proofs.Common.{◌≡◌}
use Rattle.jr_tests.proofs.wall.helping.Held.watch.Given as goal

abbrev pub invariant-loop-turn : goal.invariant-loop-turn
invariant-loop-turn l = l.sight.cells ≡ l.strips
