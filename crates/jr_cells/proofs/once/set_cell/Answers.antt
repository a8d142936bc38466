use Rattle.std.proofs.Common.{rules}
use Rattle.jr_cells.proofs.Noted.{within_notes, same_name, kept_by_set, names_kept, all_kept, here}
use Rattle.jr_cells.proofs.once.set_cell.Goals as goal

pub set_as-requires : goal.set_as-requires
set_as-requires g c = same_name c.args.notes.now.items c.args.cells.now c.args.at _ _ c.requires.notes c.requires.cell c.index_mut.ensures.value (search (rules, c.index-cells-at.is))

pub returns-in-Ok-set_as-clause-cells : goal.returns-in-Ok-set_as-clause-cells
returns-in-Ok-set_as-clause-cells g c =
    let within = within_notes c.args.notes.now.items c.args.cells.now c.args.at c.requires.notes c.requires.cell in
    names_kept c.args.notes.now.items c.args.at c.index_mut.result.now c.set_as.new.note (record { within = within; there = c.index_mut.ensures.value; cell = c.set_as.ensures.cell; keeps = kept_by_set _ _ c.set_as.ensures.known })

pub returns-in-Ok-set_as-clause-later : goal.returns-in-Ok-set_as-clause-later
returns-in-Ok-set_as-clause-later g c =
    let within = within_notes c.args.notes.now.items c.args.cells.now c.args.at c.requires.notes c.requires.cell in
    all_kept c.args.notes.now.items c.args.at c.index_mut.result.now c.set_as.new.note (record { within = within; there = c.index_mut.ensures.value; cell = c.set_as.ensures.cell; keeps = kept_by_set _ _ c.set_as.ensures.known })

pub returns-in-Ok-set_as-clause-ok : goal.returns-in-Ok-set_as-clause-ok
returns-in-Ok-set_as-clause-ok g c =
    let within = within_notes c.args.notes.now.items c.args.cells.now c.args.at c.requires.notes c.requires.cell in
    let known = here c.args.notes.now.items c.args.at c.set_as.new.note within in
    search (rules, known, c.in-Ok-set_as.ensures.value, c.in-Ok.ensures.ok)

pub returns-in-Err-set_as-clause-cells : goal.returns-in-Err-set_as-clause-cells
returns-in-Err-set_as-clause-cells g c =
    let within = within_notes c.args.notes.now.items c.args.cells.now c.args.at c.requires.notes c.requires.cell in
    let kept = names_kept c.args.notes.now.items c.args.at c.index_mut.result.now c.set_as.new.note (record { within = within; there = c.index_mut.ensures.value; cell = c.set_as.ensures.cell; keeps = kept_by_set _ _ c.set_as.ensures.known }) in
    search (rules, kept)

pub returns-in-Err-set_as-clause-later : goal.returns-in-Err-set_as-clause-later
returns-in-Err-set_as-clause-later g c =
    let within = within_notes c.args.notes.now.items c.args.cells.now c.args.at c.requires.notes c.requires.cell in
    let kept = all_kept c.args.notes.now.items c.args.at c.index_mut.result.now c.set_as.new.note (record { within = within; there = c.index_mut.ensures.value; cell = c.set_as.ensures.cell; keeps = kept_by_set _ _ c.set_as.ensures.known }) in
    search (rules, kept)
