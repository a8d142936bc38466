-- Where the entropy-coded segments of a scan are in its file (T.81, B.1.1.5). The scan has n intervals, their data are
-- `datas`, and `ended` ends it.
use Rattle.std.specs.Prelude.{◌≡◌, ℕ, ◌+◌, ◌<◌, ◌≤◌, ◌⊎◌, List, [], ◌++◌, length, drop, replicate, slice_index_or, slice_range}
use Rattle.jr_cut.specs.declared.file_segments.CodedSpan.{CodedSpan}
use Rattle.jr_cut.specs.declared.scan_end.ScanEnd.{ScanEnd}
use Rattle.jr_cut.specs.Cut.{CutFrom, IsEnding, IsRaw, IsStop}
use Rattle.jr_cut.specs.PartialSegments.{BeginsWithRestart}

-- the bytes of the file from the start up to the end spell these bytes, and a marker or the file's end is after them
pub record IsSpelledAt (file : List ℕ) (s : CodedSpan) (bytes : List ℕ) : Type 0 where
  pub order : s.start ≤ s.end
  pub within : s.end ≤ length file
  pub raw : IsRaw (slice_range file s.start s.end) bytes
  pub stop : IsStop (drop s.end file)

-- segment i begins at that offset: the file starting there is this segment, those after it and what ends the scan
pub record BeginsSegment (file : List ℕ) (n : ℕ) (datas : List (List ℕ)) (ended : ScanEnd) (i at : ℕ) : Type 0 where
  pub within : at ≤ length file
  pub segments : List (List ℕ)
  pub empty : ℕ
  pub cut : CutFrom n i at (drop at file) segments ended
  pub intervals : drop i datas ≡ segments ++ replicate empty []

-- the scan has ended before segment i: interval i and those after it have no data, and that offset is the file's end
pub record HasEndedBefore (file : List ℕ) (datas : List (List ℕ)) (i at : ℕ) : Type 0 where
  pub last : at ≡ length file
  pub none : (j : ℕ) → i ≤ j → slice_index_or datas j [] ≡ []

abbrev pub IsNextSegment : (file : List ℕ) (n : ℕ) (datas : List (List ℕ)) (ended : ScanEnd) (i at : ℕ) → Type 0
IsNextSegment file n datas ended i at = BeginsSegment file n datas ended i at ⊎ HasEndedBefore file datas i at

-- these bytes of the file code interval i
pub record IsSegment (file : List ℕ) (n : ℕ) (datas : List (List ℕ)) (ended : ScanEnd) (i : ℕ) (span : CodedSpan) : Type 0 where
  pub begins : IsNextSegment file n datas ended i span.start
  pub spelled : IsSpelledAt file span (slice_index_or datas i [])

-- after a segment that ends at an offset: the restart marker that is due, and the next segment after it
pub record GoesOnAfter (file : List ℕ) (n k end next : ℕ) : Type 0 where
  pub count : ℕ
  pub more : k + 1 < n
  pub due : BeginsWithRestart k (drop end file) count
  pub is : next ≡ end + count

-- or what ends the scan
pub record EndsAfter (file : List ℕ) (n k end next : ℕ) : Type 0 where
  pub ended : ScanEnd
  pub ends : IsEnding n k end (drop end file) ended
  pub last : next ≡ length file
