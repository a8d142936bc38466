-- A scan and its restart intervals (T.81, E.1.4 and E.2.4).
use Rattle.std.specs.Prelude.{◌≡◌, ℕ, ◌-◌, ◌<◌, List, [], ◌++◌, length, replicate, drop, slice_index_or}
use Rattle.jr_head.specs.HeadValue.{HeadValue}
pub use Rattle.jr_head.specs.Intervals.{intervals_of, mcus_in}
use Rattle.jr_cut.specs.declared.scan_end.ScanEnd.{ScanEnd}
use Rattle.jr_cut.specs.Cut.{IsCut}
use Rattle.jr_scan.specs.IntervalValue.{IntervalValue}

-- the header, the data bytes of each interval, and what ended the scan
pub record ScanValue : Type 0 where
  pub head : HeadValue
  pub intervals : List (List ℕ)
  pub ended : ScanEnd

-- the scan of a header that is cut into these segments; further intervals have no data
abbrev pub scan_of_segments : HeadValue → List (List ℕ) → ScanEnd → ScanValue
scan_of_segments h segments end = record { head = h; intervals = segments ++ replicate (intervals_of h - length segments) []; ended = end }

abbrev pub interval_of : ScanValue → ℕ → IntervalValue
interval_of s i = record { number = i; mcus = mcus_in s.head i; bytes = slice_index_or s.intervals i []; head = s.head }

-- the intervals are the segments into which the file's bytes after the scan header are cut, and then empty ones
pub record IsScanOf (file : List ℕ) (s : ScanValue) : Type 0 where
  pub segments : List (List ℕ)
  pub cut : IsCut (intervals_of s.head) s.head.scan_at (drop s.head.scan_at file) segments s.ended
  pub intervals : s.intervals ≡ segments ++ replicate (intervals_of s.head - length segments) []

-- equal headers, and the same data in each interval; what ended them may differ
abbrev pub IsSameScan : ScanValue → ScanValue → Type 0
IsSameScan s t = (s.head ≡ t.head) × (s.intervals ≡ t.intervals)

-- the interval is the scan's interval of its number
abbrev pub HasInterval : ScanValue → IntervalValue → Type 0
HasInterval s i = (i.number < length s.intervals) × (i ≡ interval_of s i.number)
