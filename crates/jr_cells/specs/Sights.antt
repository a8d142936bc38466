-- What a sight knows of cells.
use Rattle.std.specs.Prelude.{◌≡◌, ℕ, cond, ◌==◌, List, slice_index_or, Option, Some, None}
use Rattle.std.specs.declared.sync.Arc.{Arc}
use Rattle.std.specs.Arc.{arc_value}
use Rattle.std.specs.declared.alloc.Global.{Global}
use Rattle.once_cell.specs.declared.race.note.Note.{Note}
use Rattle.jr_piece.specs.PieceValue.{PieceValue}
use Rattle.jr_cells.specs.Notes.{known_of, counted}
use Rattle.jr_cells.specs.SightValue.{SightValue}

-- the note of one cell
abbrev pub CellNote : Type 0
CellNote = Note (Arc PieceValue Global)

-- a piece in cell i counts only if it is of interval i
abbrev pub piece_in_cell : ℕ → Option (Arc PieceValue Global) → Option PieceValue
piece_in_cell i None = None
piece_in_cell i (Some p) = cond ((arc_value p).interval.number == i) (Some (arc_value p)) None

-- the pieces that notes know in the cells, starting at the first
abbrev pub pieces_of : List CellNote → List (Option PieceValue)
pieces_of ns = counted piece_in_cell 0 (known_of ns)

-- the sight knows this piece in cell i
abbrev pub Knows : SightValue → ℕ → PieceValue → Type 0
Knows s i p = slice_index_or s.pieces i None ≡ Some p

-- it knows of no piece in cell i
abbrev pub KnowsNothing : SightValue → ℕ → Type 0
KnowsNothing s i = slice_index_or s.pieces i None ≡ None

-- the new sight knows all that the old one knew
abbrev pub KnowsAll : SightValue → SightValue → Type 0
KnowsAll old new = (i : ℕ) (p : PieceValue) → Knows old i p → Knows new i p

-- two sights agree on each cell of which both know the piece
abbrev pub Agree : SightValue → SightValue → Type 0
Agree a b = (i : ℕ) (p q : PieceValue) → Knows a i p → Knows b i q → p ≡ q
