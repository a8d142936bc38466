use Rattle.std.proofs.Common.{◌≡◌, ℕ, length, replicate, None, Option, ap, sym, ◌∙◌}
use Rattle.std.proofs.lemmas.List.{length-map}
use Rattle.once_cell.specs.Once.{cell_name}
use Rattle.jr_piece.specs.StripValue.{StripValue}
use Rattle.jr_cells.specs.StripCellsValue.{StripCellsValue}
use Rattle.jr_cells.proofs.StripSeen.{fresh_strips}
use Rattle.jr_cells.proofs.strip_cells.StripCells.sight.Goals as goal

pub returns-clause-nothing : goal.returns-clause-nothing
returns-clause-nothing c =
    let many : length c.as_slice.result.now ≡ length c.args.self.now.cells
    = ap length c.as_slice.ensures.value ∙ sym (length-map c.self.inside.cells.items cell_name) ∙ ap (λ (v : StripCellsValue). length v.cells) c.self.view_is in
    fresh_strips _ _ c.in_ok-notes.notes.items (length c.as_slice.result.now) c.in_ok-notes.ensures.nothing ∙ ap (λ (m : ℕ). replicate {A = Option StripValue} m None) many
