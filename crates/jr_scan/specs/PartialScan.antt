-- A scan whose file is still arriving.
use Rattle.std.specs.Prelude.{◌≡◌, ℕ, ◌+◌, ◌≤◌, List, length, drop}
use Rattle.jr_cut.specs.PartialCut.{PartialCutValue, HasCut}
use Rattle.jr_scan.specs.ScanValue.{ScanValue, scan_of_segments, IsScanOf}
use Rattle.jr_head.specs.HeadValue.{HeadValue}

-- the scan of the bytes so far; the number of its segments; the number of the file's bytes that are read or kept; and the cut that
-- further bytes continue
pub record PartialScanValue : Type 0 where
  pub scan : ScanValue
  pub segments : ℕ
  pub come : ℕ
  pub cut : PartialCutValue

-- that of a header and of the segments into which its scan's bytes so far are cut
abbrev pub partial_scan : HeadValue → PartialCutValue → PartialScanValue
partial_scan h c = record { scan = scan_of_segments h c.segments c.ended; segments = length c.segments; come = c.at + length c.rest; cut = c }

-- these are the bytes of the file that have come
pub record HasCome (g : PartialScanValue) (bytes : List ℕ) : Type 0 where
  pub starts : g.scan.head.scan_at ≤ length bytes
  pub few : g.come ≤ length bytes
  pub cut : HasCut g.scan.head.scan_at (drop g.scan.head.scan_at bytes) g.cut
  pub scan : IsScanOf bytes g.scan
  pub segments : length scan.segments ≡ g.segments
