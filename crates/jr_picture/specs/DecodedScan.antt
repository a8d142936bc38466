-- A scan of which some intervals are decoded: their pieces, and the marks of all.
use Rattle.std.specs.Prelude.{◌≡◌, ℕ, Bool, true, false, cond, length, map, List, slice_index_or, Option, Some, None}
use Rattle.jr_scan.specs.IntervalValue.{IntervalValue}
use Rattle.jr_scan.specs.ScanValue.{ScanValue, HasInterval}
use Rattle.jr_piece.specs.PieceValue.{PieceValue}
use Rattle.jr_piece.specs.Outcome.{IsOutcome}
use Rattle.jr_picture.specs.declared.mark.Mark.{Mark}
use Rattle.jr_picture.specs.declared.mark.Mark.TheVariants.{Blank, Sound, Damaged}

-- a scan, and by number the piece of each interval that is decoded
pub record DecodedScan : Type 0 where
  pub scan : ScanValue
  pub pieces : List (Option PieceValue)

abbrev pub piece_at : DecodedScan → ℕ → Option PieceValue
piece_at b i = slice_index_or b.pieces i None

-- the mark of a decoded interval's piece, or of none
abbrev pub mark_of : Option PieceValue → Mark
mark_of None = Blank
mark_of (Some p) = cond p.is_sound Sound Damaged

-- the marks of all intervals
abbrev pub marks_of : DecodedScan → List Mark
marks_of b = map mark_of b.pieces

abbrev pub mark_at : DecodedScan → ℕ → Mark
mark_at b i = mark_of (piece_at b i)

abbrev pub is_sound_piece : Option PieceValue → Bool
is_sound_piece None = false
is_sound_piece (Some p) = p.is_sound

abbrev pub is_damaged_piece : Option PieceValue → Bool
is_damaged_piece None = false
is_damaged_piece (Some p) = cond p.is_sound false true

-- the interval is the scan's interval of its number
abbrev pub IsFor : IntervalValue → ScanValue → Type 0
IsFor i scan = HasInterval scan i

-- the piece is of interval i of the scan, and contains the result that T.81 gives for it
pub record IsPieceOf (scan : ScanValue) (i : ℕ) (p : PieceValue) : Type 0 where
  pub number : p.interval.number ≡ i
  pub interval : IsFor p.interval scan
  pub outcome : IsOutcome p

-- there is an entry for each interval, and each piece is that of its entry
pub record IsDecodedScan (b : DecodedScan) : Type 0 where
  pub places : length b.pieces ≡ length b.scan.intervals
  pub each : (i : ℕ) (p : PieceValue) → piece_at b i ≡ Some p → IsPieceOf b.scan i p
