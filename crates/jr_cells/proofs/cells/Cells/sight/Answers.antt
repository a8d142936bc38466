use Rattle.std.proofs.Common.{◌≡◌, ℕ, length, replicate, None, Option, ap, sym, ◌∙◌}
use Rattle.std.proofs.lemmas.List.{length-map}
use Rattle.once_cell.specs.Once.{cell_name}
use Rattle.jr_piece.specs.PieceValue.{PieceValue}
use Rattle.jr_cells.proofs.Pieces.{fresh_pieces}
use Rattle.jr_cells.proofs.cells.Cells.sight.Goals as goal

pub returns-clause-nothing : goal.returns-clause-nothing
returns-clause-nothing c =
    let many : length c.as_slice.result.now ≡ length c.args.self.now = ap length c.as_slice.ensures.value ∙ sym (length-map c.self.inside.cells.items cell_name) ∙ ap length c.self.view_is in
    fresh_pieces c.in_ok-notes.notes.items (length c.as_slice.result.now) c.in_ok-notes.ensures.nothing ∙ ap (λ (m : ℕ). replicate {A = Option PieceValue} m None) many
