use Rattle.std.proofs.Common.{rules}
use Rattle.jr_cells.proofs.Pieces.{agree}
use Rattle.jr_cells.proofs.cells.Cells.agree.Goals as goal

pub returns-clause-agree : goal.returns-clause-agree
returns-clause-agree c = rw (← c.one.view_is, ← c.two.view_is) (agree c.one.inside.notes.items c.two.inside.notes.items c.compare_notes.ensures.agree)

pub returns-clause-same : goal.returns-clause-same
returns-clause-same c = search rules
