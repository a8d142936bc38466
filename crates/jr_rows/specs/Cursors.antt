-- A cursor between two MCUs of a scan.
use Rattle.std.specs.Prelude.{ℕ, ◌+◌, ◌*◌, ◌<◌, length}
use Rattle.jr_head.specs.HeadValue.{HeadValue}
use Rattle.jr_scan.specs.Speculations.{AreSpeculationsOf}
use Rattle.jr_scan.specs.ScanValue.{ScanValue, interval_of}
use Rattle.jr_scan.specs.Cursors.{IsPlaceAfter}
use Rattle.jr_scan.specs.declared.cursor.Cursor.{Cursor}
use Rattle.jr_rows.specs.declared.interval_speculations.IntervalSpeculations.{IntervalSpeculations}

-- the cursor is one of the scan
pub record IsCursorOf (s : ScanValue) (c : Cursor) : Type 0 where
  pub number : c.number < length s.intervals
  pub at : IsPlaceAfter (interval_of s c.number) c.mcu c.place

-- the number of MCUs of the scan before it
abbrev pub mcus_to : HeadValue → Cursor → ℕ
mcus_to h c = c.number * h.restart + c.mcu

-- speculative reads of an interval of the scan
abbrev pub AreSpeculationsIn : ScanValue → IntervalSpeculations → Type 0
AreSpeculationsIn s g = AreSpeculationsOf (interval_of s g.number) g.speculations
