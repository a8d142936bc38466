use Rattle.std.proofs.Common.{rules}
use Rattle.jr_cells.proofs.Noted.{within_notes, same_name, kept_by_get, names_kept, elsewhere, all_kept, found, missed}
use Rattle.jr_cells.proofs.once.get_cell.Goals as goal

pub get_as-requires : goal.get_as-requires
get_as-requires g c = same_name c.args.notes.now.items c.args.cells.now c.args.at _ _ c.requires.notes c.requires.cell c.index_mut.ensures.value (search (rules, c.index-cells-at.is))

pub returns-clause-cells : goal.returns-clause-cells
returns-clause-cells g c =
    let within = within_notes c.args.notes.now.items c.args.cells.now c.args.at c.requires.notes c.requires.cell in
    names_kept c.args.notes.now.items c.args.at c.index_mut.result.now c.get_as.new.note (record { within = within; there = c.index_mut.ensures.value; cell = c.get_as.ensures.cell; keeps = kept_by_get c.get_as.result _ _ c.get_as.ensures.value })

pub returns-clause-later : goal.returns-clause-later
returns-clause-later g c =
    let within = within_notes c.args.notes.now.items c.args.cells.now c.args.at c.requires.notes c.requires.cell in
    all_kept c.args.notes.now.items c.args.at c.index_mut.result.now c.get_as.new.note (record { within = within; there = c.index_mut.ensures.value; cell = c.get_as.ensures.cell; keeps = kept_by_get c.get_as.result _ _ c.get_as.ensures.value })

pub returns-clause-others : goal.returns-clause-others
returns-clause-others g c = elsewhere c.args.notes.now.items c.args.at c.get_as.new.note

pub returns-clause-some : goal.returns-clause-some
returns-clause-some g c =
    let within = within_notes c.args.notes.now.items c.args.cells.now c.args.at c.requires.notes c.requires.cell in
    found c.args.notes.now.items c.args.at c.index_mut.result.now c.get_as.new.note c.get_as.result within c.get_as.ensures.value

pub returns-clause-none : goal.returns-clause-none
returns-clause-none g c =
    let within = within_notes c.args.notes.now.items c.args.cells.now c.args.at c.requires.notes c.requires.cell in
    missed c.args.notes.now.items c.args.at c.index_mut.result.now c.get_as.new.note c.get_as.result within c.index_mut.ensures.value c.get_as.ensures.value
