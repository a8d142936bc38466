use Rattle.std.proofs.Common.{◌≡◌}
use Rattle.jr_cells.proofs.Noted.{AgreeBelow}
use Rattle.jr_cells.proofs.once.compare_notes.Given as goal

abbrev pub invariant-loop-i : goal.invariant-loop-i
invariant-loop-i g l = record {
  one : l.one.items ≡ l.initial.one.items;
  two : l.two.items ≡ l.initial.two.items;
  agree : AgreeBelow l.i l.initial.one.items l.initial.two.items;
}
