use Rattle.std.proofs.Common.{rules}
use Rattle.jr_cells.proofs.Pieces.{knows_all, hung}
use Rattle.jr_cells.proofs.cells.Cells.hang.Goals as goal

pub returns-clause-later : goal.returns-clause-later
returns-clause-later c = rw (← c.sight.view_is) (knows_all c.sight.inside.notes.items c.set_cell.new.notes.items c.set_cell.ensures.later)

pub returns-clause-ok : goal.returns-clause-ok
returns-clause-ok c = hung c.set_cell.new.notes.items c.args.i c.args.piece c.set_cell.result c.requires.number (search (rules, c.set_cell.ensures.ok))

pub returns-clause-err : goal.returns-clause-err
returns-clause-err c = search rules
