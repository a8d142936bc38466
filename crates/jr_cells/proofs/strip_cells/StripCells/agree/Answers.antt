use Rattle.std.proofs.Common.{sym, ◌∙◌}
use Rattle.jr_cells.proofs.StripSeen.{of_cells, agree_alike}
use Rattle.jr_cells.proofs.strip_cells.StripCells.agree.Goals as goal

pub returns-clause-agree : goal.returns-clause-agree
returns-clause-agree c =
    let one = of_cells c.one.inside.number c.one.inside.each c.one.inside.notes.items c.args.one.now c.args.self.now c.one.view_is c.requires.0 in
    let two = of_cells c.two.inside.number c.two.inside.each c.two.inside.notes.items c.args.two.now c.args.self.now c.two.view_is c.requires.1 in
    rw (← c.one.view_is, ← c.two.view_is) (agree_alike _ _ _ _ c.one.inside.notes.items c.two.inside.notes.items (one.0 ∙ sym two.0) (one.1 ∙ sym two.1) c.compare_notes.ensures.agree)
