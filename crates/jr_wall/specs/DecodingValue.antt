-- What contracts see of a decoding: the scan, the desk that hands out its first intervals, and the cells.
use Rattle.std.specs.Prelude.{◌≡◌, ℕ, List, length, Option, None, slice_index_or}
use Rattle.std.specs.Option.{IfSome}
use Rattle.jr_scan.specs.ScanValue.{ScanValue}
use Rattle.jr_scan.specs.FirstIntervalsValue.{FirstIntervalsValue}
use Rattle.jr_cells.specs.Values.{DeskValue}
use Rattle.jr_cells.specs.StripCellsValue.{StripCellsValue}

-- the cells of pieces, and by interval the cells of strips if it has such
pub record DecodingValue : Type 0 where
  pub scan : ScanValue
  pub desk : DeskValue
  pub cells : List ℕ
  pub strips : List (Option StripCellsValue)

-- each is of the interval whose number is its index
abbrev pub AreNumbered : List (Option StripCellsValue) → Type 0
AreNumbered strips = (i : ℕ) → IfSome (slice_index_or strips i None) (λ c. c.number ≡ i)

-- the cells of the strips of interval i
abbrev pub strips_at : DecodingValue → ℕ → Option StripCellsValue
strips_at d i = slice_index_or d.strips i None

-- all intervals of a scan
abbrev pub whole : ScanValue → FirstIntervalsValue
whole scan = record { scan = scan; limit = length scan.intervals }
