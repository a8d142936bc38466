-- Where the entropy-coded segments of a scan's intervals are in its file (T.81, B.1.1.5).
use Rattle.std.specs.Prelude.{ℕ, List}
use Rattle.jr_cut.specs.declared.file_segments.CodedSpan.{CodedSpan}
use Rattle.jr_cut.specs.Coded.{BeginsSegment, IsNextSegment, IsSegment}
use Rattle.jr_scan.specs.ScanValue.{ScanValue, intervals_of}

-- segment i begins at that offset
abbrev pub BeginsAt : (file : List ℕ) (s : ScanValue) (i at : ℕ) → Type 0
BeginsAt file s i at = BeginsSegment file (intervals_of s.head) s.intervals s.ended i at

-- or the scan has ended before it, and that offset is the file's end
abbrev pub IsNextAt : (file : List ℕ) (s : ScanValue) (i at : ℕ) → Type 0
IsNextAt file s i at = IsNextSegment file (intervals_of s.head) s.intervals s.ended i at

-- these bytes of the file code interval i
abbrev pub IsSegmentOf : (file : List ℕ) (s : ScanValue) (i : ℕ) (span : CodedSpan) → Type 0
IsSegmentOf file s i span = IsSegment file (intervals_of s.head) s.intervals s.ended i span
