-- What a sight knows of the cells for an interval's strips.
use Rattle.std.specs.Prelude.{◌≡◌, ℕ, ◌*◌, cond, ◌==◌, ◌&&◌, Bool, List, slice_index_or, Option, Some, None}
use Rattle.std.specs.declared.sync.Arc.{Arc}
use Rattle.std.specs.Arc.{arc_value}
use Rattle.std.specs.declared.alloc.Global.{Global}
use Rattle.once_cell.specs.declared.race.note.Note.{Note}
use Rattle.jr_piece.specs.StripValue.{StripValue}
use Rattle.jr_cells.specs.Notes.{known_of, counted}
use Rattle.jr_cells.specs.StripCellsValue.{StripSightValue}

-- the note of one cell
abbrev pub StripNote : Type 0
StripNote = Note (Arc StripValue Global)

-- the strip is of the interval of this number, and begins with this MCU
abbrev pub is_position : ℕ → ℕ → StripValue → Bool
is_position number first s = (s.interval.number == number) && (s.first == first)

-- a strip counts only if it is at that position
abbrev pub strip_in_cell : ℕ → ℕ → Option (Arc StripValue Global) → Option StripValue
strip_in_cell number first None = None
strip_in_cell number first (Some s) = cond (is_position number first (arc_value s)) (Some (arc_value s)) None

-- the strips that notes know in the cells, starting at the first
abbrev pub strips_of : ℕ → ℕ → List StripNote → List (Option StripValue)
strips_of number each ns = counted (λ place. strip_in_cell number (place * each)) 0 (known_of ns)

-- the sight knows this strip in the cell at this index
abbrev pub KnowsStrip : StripSightValue → ℕ → StripValue → Type 0
KnowsStrip s place strip = slice_index_or s.strips place None ≡ Some strip

-- it knows of no strip there
abbrev pub KnowsNoStrip : StripSightValue → ℕ → Type 0
KnowsNoStrip s place = slice_index_or s.strips place None ≡ None

-- the new sight knows all strips that the old one knew
abbrev pub KnowsAllStrips : StripSightValue → StripSightValue → Type 0
KnowsAllStrips old new = (place : ℕ) (s : StripValue) → KnowsStrip old place s → KnowsStrip new place s

-- two sights agree on each cell of which both know the strip
abbrev pub AgreeOnStrips : StripSightValue → StripSightValue → Type 0
AgreeOnStrips a b = (place : ℕ) (s t : StripValue) → KnowsStrip a place s → KnowsStrip b place t → s ≡ t
