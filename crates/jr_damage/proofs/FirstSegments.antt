-- The first segment of a scan in its file.
use Rattle.std.proofs.Common.{ℕ, ◌-◌, List, length, inl, arith}
use Rattle.jr_scan.specs.ScanValue.{ScanValue, intervals_of}
use Rattle.jr_damage.specs.Coded.{IsNextAt}
use Rattle.jr_damage.specs.Verdicts.{IsFileScan}

pub first_begins : (file : List ℕ) (s : ScanValue) → IsFileScan file s → IsNextAt file s 0 s.head.scan_at
first_begins file s f = inl (record {
  within = omega (arith, f.head.scan_at);
  segments = f.cut.segments;
  empty = intervals_of s.head - length f.cut.segments;
  cut = f.cut.cut;
  intervals = f.cut.intervals;
})
