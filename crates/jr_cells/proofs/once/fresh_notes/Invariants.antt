use Rattle.std.proofs.Common.{◌≡◌, map, take, replicate, None}
use Rattle.once_cell.specs.Once.{cell_name}
use Rattle.jr_cells.specs.Notes.{names_of, known_of}
use Rattle.jr_cells.proofs.once.fresh_notes.Given as goal

abbrev pub invariant-loop-cell : goal.invariant-loop-cell
invariant-loop-cell g l = record {
  cells : names_of l.notes.items ≡ map cell_name (take l.cell-index l.cells);
  nothing : known_of l.notes.items ≡ replicate l.cell-index None;
}
