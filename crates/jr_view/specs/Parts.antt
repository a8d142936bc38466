-- When a view is a part of the image that T.81 gives for its scan.
use Rattle.std.specs.Prelude.{◌≡◌, ℕ, ◌<◌, true, false, length}
use Rattle.jr_head.specs.Geometry.{blocks_of, mcus_of}
use Rattle.jr_head.specs.Intervals.{interval_number, intervals_of}
use Rattle.jr_piece.specs.PieceValue.{PieceValue}
use Rattle.jr_piece.specs.Units.{grey_unit}
use Rattle.jr_picture.specs.DecodedScan.{IsPieceOf}
use Rattle.jr_view.specs.ViewValue.{ViewValue}
use Rattle.jr_view.specs.Views.{ShowsPiece, has_seen, unit_at}

-- an MCU that was seen shows what the scan's piece of its interval shows; any other is grey
pub record ShowsOwn (v : ViewValue) (mcu : ℕ) : Type 0 where
  pub seen : has_seen v mcu ≡ true → (p : PieceValue) → IsPieceOf v.scan (interval_number v.scan.head mcu) p → ShowsPiece v p mcu
  pub unseen : has_seen v mcu ≡ false → (k : ℕ) → k < blocks_of v.scan.head → unit_at v mcu k ≡ grey_unit

-- the scan has the intervals that its header says, and each MCU of the image shows its own
pub record IsPartOfPicture (v : ViewValue) : Type 0 where
  pub intervals : length v.scan.intervals ≡ intervals_of v.scan.head
  pub each : (mcu : ℕ) → mcu < mcus_of v.scan.head → ShowsOwn v mcu

-- each MCU of the image was seen
abbrev pub HasSeenAll : ViewValue → Type 0
HasSeenAll v = (mcu : ℕ) → mcu < mcus_of v.scan.head → has_seen v mcu ≡ true
