-- What more bytes add to a scan (T.81, E.1.4 and B.1.1.5), and what they leave as it is.
use Rattle.std.specs.Prelude.{◌≡◌, ◌≢◌, ℕ, ◌+◌, ◌*◌, ◌<◌, ◌≤◌, ◌⊎◌, List, [], ◌∷◌, ◌++◌, length, ℤ, slice_index_or}
use Rattle.jr_head.specs.HeadValue.{HeadValue}
use Rattle.jr_head.specs.Geometry.{mcus_across}
use Rattle.jr_head.specs.Heads.{HeadOf}
use Rattle.jr_head.specs.Intervals.{interval_number, within_interval}
use Rattle.jr_cut.specs.declared.scan_end.ScanEnd.TheVariants.{EndOfFile}
use Rattle.jr_scan.specs.IntervalValue.{IntervalValue}
use Rattle.jr_scan.specs.ScanValue.{ScanValue, IsScanOf, interval_of}
use Rattle.jr_scan.specs.Mcus.{Front, LongestFront}
use Rattle.jr_paint.specs.Lines.{next_lines_of}
use Rattle.jr_rows.specs.Rows.{first_line, line_count}
use Rattle.jr_arrival.specs.declared.window.TheConstants.{MCU_BITS}

-- of the segments that bytes are cut into, all but the last are kept by more bytes; the last one's data may continue, and others follow
pub record GrowsTo (datas longer : List (List ℕ)) : Type 0 where
  pub ended : List (List ℕ)
  pub last : List ℕ
  pub more : List ℕ
  pub others : List (List ℕ)
  pub is : datas ≡ ended ++ last ∷ []
  pub longer_is : longer ≡ ended ++ (last ++ more) ∷ others

-- the header of these bytes, and the scan that they are cut into
pub record HasScan (bytes : List ℕ) (s : ScanValue) : Type 0 where
  pub head : HeadOf bytes s.head
  pub scan : IsScanOf bytes s

-- interval i of a scan of that many segments is over: another segment follows it, or a marker has ended the scan
abbrev pub IsOver : ScanValue → (segments i : ℕ) → Type 0
IsOver s segments i = (s.ended ≢ EndOfFile) ⊎ (i + 1 < segments)

-- interval i of the bytes' scan is over
abbrev pub HasEndedAt : List ℕ → ScanValue → ℕ → Type 0
HasEndedAt bytes s i = (c : IsScanOf bytes s) × IsOver s (length c.segments) i

-- what a longer file's scan keeps: the header; of each interval the data so far, and all of an interval that has ended; and the end of a
-- scan that a marker ended
pub record KeepsScan (bytes : List ℕ) (s t : ScanValue) : Type 0 where
  pub head : t.head ≡ s.head
  pub so_far : (i : ℕ) → (more : List ℕ) × (slice_index_or t.intervals i [] ≡ slice_index_or s.intervals i [] ++ more)
  pub whole : (i : ℕ) → HasEndedAt bytes s i → interval_of t i ≡ interval_of s i
  pub end : s.ended ≢ EndOfFile → t.ended ≡ s.ended

-- no data that follow make MCU `mcu` of the interval whole: its longest prefix of whole MCUs ends before that one, and at least as
-- many bits are left after it as an MCU has at most (T.81, F.1.2)
pub record IsNeverWhole (i : IntervalValue) (mcu : ℕ) : Type 0 where
  pub front : ℕ
  pub blocks : List (List ℤ)
  pub few : front ≤ mcu
  pub longest : LongestFront i front blocks
  pub long : MCU_BITS ≤ length longest.front.rest

-- the interval's longest prefix may become longer: fewer bits are left after it
pub record MayGrow (i : IntervalValue) (front : ℕ) : Type 0 where
  pub blocks : List (List ℤ)
  pub longest : LongestFront i front blocks
  pub short : length longest.front.rest < MCU_BITS

-- the interval's data so far make MCU `mcu` of it final: whole MCUs reach past it, or it never becomes whole
abbrev pub IsKnown : IntervalValue → (mcu : ℕ) → Type 0
IsKnown i mcu = ((blocks : List (List ℤ)) × Front i (mcu + 1) blocks) ⊎ IsNeverWhole i mcu

-- the bytes so far make MCU m of the image final: its interval has ended, or the interval's data so far make it final
abbrev pub IsSettled : List ℕ → ScanValue → ℕ → Type 0
IsSettled bytes s m = let i = interval_number s.head m in
    HasEndedAt bytes s i ⊎ IsKnown (interval_of s i) (within_interval s.head m)

-- each MCU of a row is
abbrev pub RowIsSettled : List ℕ → ScanValue → ℕ → Type 0
RowIsSettled bytes s row = (m : ℕ) → row * mcus_across s.head ≤ m → m < (row + 1) * mcus_across s.head → IsSettled bytes s m

-- the lines of pixels of a row of MCUs; f maps component, column and line to samples
abbrev pub lines_of_row : HeadValue → (ℕ → ℕ → ℕ → ℕ) → ℕ → List ℕ
lines_of_row h f row = next_lines_of h f (first_line h row) (line_count h row)
