use Rattle.std.proofs.Common.{◌≡◌, length}
use Rattle.jr_cells.proofs.once.empty_cells.Given as goal

abbrev pub invariant-loop : goal.invariant-loop
invariant-loop g l = length l.cells.items ≡ l.counter
