use Rattle.std.proofs.Common.{rules, ◌≡◌, ◌≢◌}
use Rattle.std.specs.Arc.{arc_value}
use Rattle.jr_cells.specs.Sights.{KnowsNothing}
use Rattle.jr_cells.proofs.Pieces.{seen, knows_all, known_piece, missed_piece, strange_piece}
use Rattle.jr_cells.proofs.cells.Cells.look.Goals as goal

pub returns-in_err-get_cell-clause-none : goal.returns-in_err-get_cell-clause-none
returns-in_err-get_cell-clause-none c =
    let missed : (seen c.get_cell.new.notes.items ≡ c.args.sight.now) × KnowsNothing c.args.sight.now c.args.i
    = rw (← c.sight.view_is) (missed_piece c.sight.inside.notes.items c.get_cell.new.notes.items c.args.i c.get_cell.ensures.cells (search (rules, c.in_err-get_cell.ensures.none))) in
    search (rules, missed)

pub returns-then-number-i-clause-later : goal.returns-then-number-i-clause-later
returns-then-number-i-clause-later c = rw (← c.sight.view_is) (knows_all c.sight.inside.notes.items c.get_cell.new.notes.items c.get_cell.ensures.later)

pub returns-then-number-i-clause-none : goal.returns-then-number-i-clause-none
returns-then-number-i-clause-none c =
    let other : (arc_value c.in_ok-get_cell.field-0.now).interval.number ≢ c.args.i = search rules in
    rw (← c.sight.view_is) (strange_piece c.sight.inside.notes.items c.get_cell.new.notes.items c.args.i c.in_ok-get_cell.field-0.now c.get_cell.ensures.cells c.get_cell.ensures.later (search (rules, c.get_cell.ensures.others)) (search (rules, c.in_ok-get_cell.ensures.some)) other)

pub returns-clause-later : goal.returns-clause-later
returns-clause-later c = rw (← c.sight.view_is) (knows_all c.sight.inside.notes.items c.get_cell.new.notes.items c.get_cell.ensures.later)

pub returns-clause-some : goal.returns-clause-some
returns-clause-some c =
    let own : (arc_value c.in_ok-get_cell.field-0.now).interval.number ≡ c.args.i = search rules in
    let known = known_piece c.get_cell.new.notes.items c.args.i c.in_ok-get_cell.field-0.now (search (rules, c.in_ok-get_cell.ensures.some)) own in
    search (rules, own, known)
