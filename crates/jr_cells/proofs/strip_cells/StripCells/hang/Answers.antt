use Rattle.std.proofs.Common.{rules, ℕ, ◌*◌, sym, ap, ◌∙◌}
use Rattle.jr_cells.proofs.StripSeen.{of_cells, knows_all, hung}
use Rattle.jr_cells.proofs.strip_cells.StripCells.hang.Goals as goal

pub returns-clause-later : goal.returns-clause-later
returns-clause-later c = rw (← c.sight.view_is) (knows_all c.sight.inside.number c.sight.inside.each c.sight.inside.notes.items c.set_cell.new.notes.items c.set_cell.ensures.later)

pub returns-clause-ok : goal.returns-clause-ok
returns-clause-ok c =
    let of = of_cells c.sight.inside.number c.sight.inside.each c.sight.inside.notes.items c.args.sight.now c.args.self.now c.sight.view_is c.requires.sight in
    let first = c.requires.first ∙ ap (λ (e : ℕ). c.args.place * e) (sym of.1) in
    hung c.sight.inside.number c.sight.inside.each c.set_cell.new.notes.items c.args.place c.args.strip c.set_cell.result (c.requires.number ∙ sym of.0) first (search (rules, c.set_cell.ensures.ok))
