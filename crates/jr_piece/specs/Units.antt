-- The data units of an interval in their order (T.81, A.2.3), those that its bits give and those that they don't.
use Rattle.std.specs.Prelude.{◌≡◌, ℕ, ◌+◌, ◌<◌, List, length, replicate, ℤ, slice_index_or}
use Rattle.jr_piece.specs.PieceValue.{PieceValue}
use Rattle.jr_piece.specs.Outcome.{unit_of}

-- a data unit that is shown instead of a missing one: its samples are those of a block of zeros (T.81, A.3.1)
abbrev pub grey_unit : List ℕ
grey_unit = replicate 64 128

-- data unit n of a piece, grey after its prefix
abbrev pub unit_in_piece : PieceValue → ℕ → List ℕ
unit_in_piece p n = slice_index_or p.samples n grey_unit

-- the samples of these blocks, which begin with an MCU, are the data units of a piece starting at data unit `first`
abbrev pub CodesUnits : PieceValue → ℕ → List (List ℤ) → Type 0
CodesUnits p first blocks = (k : ℕ) → k < length blocks → unit_of p.interval.head blocks k ≡ unit_in_piece p (first + k)
