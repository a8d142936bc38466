-- Copies of a file, and an interval in each of them.
use Rattle.std.specs.Prelude.{◌≢◌, ℕ, ◌<◌, List, length, map, slice_index_or}
use Rattle.jr_head.specs.HeadValue.{HeadValue}
use Rattle.jr_scan.specs.IntervalValue.{IntervalValue}
use Rattle.jr_scan.specs.ScanValue.{ScanValue, interval_of, scan_of_segments}
use Rattle.jr_damage.proofs.EachFile.{cutting_of}

-- the bytes of a copy, and its scan
pub record CopyValue : Type 0 where
  pub file : List ℕ
  pub scan : ScanValue

-- the scan of a file with this header: each has one, and no other
abbrev pub copy_scan : List ℕ → HeadValue → ScanValue
copy_scan file h = scan_of_segments h (cutting_of file h).datas (cutting_of file h).end

-- interval i in each copy
abbrev pub versions_of : List CopyValue → ℕ → List IntervalValue
versions_of copies i = map (λ (c : CopyValue). interval_of c.scan i) copies

-- the header of copy k is not that of the first copy
pub record HasOtherHead (copies : List CopyValue) (k : ℕ) : Type 0 where
  pub there : k < length copies
  pub other : (c : CopyValue) → (slice_index_or copies k c).scan.head ≢ (slice_index_or copies 0 c).scan.head
