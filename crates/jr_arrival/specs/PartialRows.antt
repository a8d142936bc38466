-- The row of MCUs that comes next of a scan whose file is still arriving.
use Rattle.std.specs.Prelude.{◌≡◌, ◌≢◌, ℕ, ◌+◌, ◌*◌, ◌<◌, ◌≤◌, ◌⊎◌, ⊤, List, [], ◌++◌, length, ℤ, Option, Some, None, slice_index_or}
use Rattle.jr_head.specs.HeadValue.{HeadValue}
use Rattle.jr_head.specs.Geometry.{mcus_across, mcus_down}
use Rattle.jr_cut.specs.declared.scan_end.ScanEnd.TheVariants.{EndOfFile}
use Rattle.jr_scan.specs.declared.place.Place.{Place}
use Rattle.jr_scan.specs.PartialScan.{PartialScanValue}
use Rattle.jr_scan.specs.Mcus.{HasLongestFront, LongestFront}
use Rattle.jr_scan.specs.ScanValue.{ScanValue, interval_of, intervals_of, mcus_in}
use Rattle.jr_scan.specs.Run.{left_at, IsNext}
use Rattle.jr_scan.specs.Cursors.{interval_start}
use Rattle.jr_scan.specs.declared.cursor.Cursor.{Cursor}
use Rattle.jr_paint.specs.Lines.{next_lines_of}
use Rattle.jr_picture.specs.DecodedScan.{DecodedScan}
use Rattle.jr_picture.specs.Samples.{samples_of}
use Rattle.jr_rows.specs.Cursors.{mcus_to}
use Rattle.jr_rows.specs.Groups.{units_in}
use Rattle.jr_rows.specs.Rows.{CountsMarks, DecodesFirst, HasSampleSpace, ShowsFirstUnits, first_line, line_count}
use Rattle.jr_rows.specs.RowsValue.{SampleRowValue}
use Rattle.jr_rows.specs.declared.marked.Marked.{Marked}
use Rattle.jr_arrival.specs.declared.window.TheConstants.{MCU_BITS}
use Rattle.jr_arrival.specs.LongerFile.{IsOver, MayGrow}

-- what a scan may become as bytes come: intervals that are over are unchanged, and data follow those of the others
pub record GrowsInto (g : PartialScanValue) (t : ScanValue) : Type 0 where
  pub head : t.head ≡ g.scan.head
  pub count : length t.intervals ≡ length g.scan.intervals
  pub so_far : (i : ℕ) → (more : List ℕ) × (slice_index_or t.intervals i [] ≡ slice_index_or g.scan.intervals i [] ++ more)
  pub whole : (i : ℕ) → IsOver g.scan g.segments i → interval_of t i ≡ interval_of g.scan i
  pub end : g.scan.ended ≢ EndOfFile → t.ended ≡ g.scan.ended

-- a row of MCUs, its samples and the number of its MCUs; where the next MCU starts: nowhere, if no further one of its interval becomes
-- whole; the number of lines that were returned; and the marks of the intervals before that one
pub record PartialRowValue : Type 0 where
  pub row : ℕ
  pub done : ℕ
  pub cursor : Cursor
  pub samples : SampleRowValue
  pub lines : ℕ
  pub marked : Marked

-- these whole MCUs are the longest prefix of an interval, and stay so: the interval is over, or at least the maximum number of bits of
-- an MCU is left after them
pub record StaysLongest (g : PartialScanValue) (number front : ℕ) (zs : List (List ℤ)) : Type 0 where
  pub longest : LongestFront (interval_of g.scan number) front zs
  pub final : IsOver g.scan g.segments number ⊎ (MCU_BITS ≤ length longest.front.rest)

-- this is the position after that number of MCUs of an interval; without a position no more of them become whole
abbrev pub ReadsTo : PartialScanValue → (number mcu : ℕ) → Option Place → Type 0
ReadsTo g number mcu (Some p) = (zs : List (List ℤ)) × IsNext (interval_of g.scan number) mcu zs p
ReadsTo g number mcu None = (front : ℕ) × (zs : List (List ℤ)) × (front ≤ mcu) × (front < mcus_in g.scan.head number) × StaysLongest g number front zs

-- no further MCU of the interval is whole
abbrev pub ReadsAll : ScanValue → (number mcu : ℕ) → Option Place → Type 0
ReadsAll s number mcu (Some p) = HasLongestFront (interval_of s number) mcu
ReadsAll s number mcu None = ⊤

-- no MCU becomes whole at that position: the interval is over, or at least the maximum number of bits of an MCU is left there
abbrev pub IsFinal : PartialScanValue → (number : ℕ) → Option Place → Type 0
IsFinal g number (Some p) = IsOver g.scan g.segments number ⊎ (MCU_BITS ≤ length (left_at (interval_of g.scan number) p))
IsFinal g number None = ⊤

-- the cursor is where the scan is read, after intervals that are over, which have these marks
pub record IsPartialReading (g : PartialScanValue) (c : Cursor) (marked : Marked) : Type 0 where
  pub number : c.number < intervals_of g.scan.head
  pub few : c.mcu ≤ mcus_in g.scan.head c.number
  pub begun : (i : ℕ) → i < c.number → IsOver g.scan g.segments i
  pub reads : ReadsTo g c.number c.mcu c.place
  pub counts : (t : ScanValue) → GrowsInto g t → CountsMarks t (length t.intervals) 0 c.number marked

-- it is at an MCU of an image with this header
pub record LiesIn (h : HeadValue) (v : PartialRowValue) : Type 0 where
  pub row : v.row < mcus_down h
  pub within : v.done ≤ mcus_across h
  pub at : mcus_to h v.cursor ≡ v.row * mcus_across h + v.done
  pub space : HasSampleSpace h v.samples

-- lines are returned in order, those of a row of MCUs once the row is whole
pub record HasGiven (h : HeadValue) (v : PartialRowValue) : Type 0 where
  pub from : first_line h v.row ≤ v.lines
  pub to : v.lines ≤ first_line h v.row + line_count h v.row
  pub none : v.done < mcus_across h → v.lines ≡ first_line h v.row
  pub left : v.lines < h.height → v.lines < first_line h v.row + line_count h v.row

-- nothing is read or returned yet
pub record Begins (h : HeadValue) (v : PartialRowValue) : Type 0 where
  pub row : v.row ≡ 0
  pub done : v.done ≡ 0
  pub cursor : v.cursor ≡ interval_start 0
  pub space : HasSampleSpace h v.samples
  pub lines : v.lines ≡ 0
  pub sound : v.marked.sound ≡ 0
  pub damaged : v.marked.damaged ≡ 0

-- the row is that of every scan that this one may become
pub record IsPartialRow (g : PartialScanValue) (v : PartialRowValue) : Type 0 where
  pub lies : LiesIn g.scan.head v
  pub given : HasGiven g.scan.head v
  pub reading : IsPartialReading g v.cursor v.marked
  pub shows : (t : ScanValue) → GrowsInto g t → ShowsFirstUnits t (length t.intervals) (v.row * mcus_across t.head) v.done (units_in t.head v.samples.lines.groups)

-- the interval is not over, and its MCUs are all read, or the next one is not whole and may become so
pub record HasNoMore (g : PartialScanValue) (c : Cursor) : Type 0 where
  pub going : IsOver g.scan g.segments c.number → ⊥
  pub next : (c.mcu ≡ mcus_in g.scan.head c.number) ⊎ MayGrow (interval_of g.scan c.number) c.mcu

-- these are n lines of the image of every scan that this one may become, starting at this line
abbrev pub AreFinalLines : PartialScanValue → (first count : ℕ) → List ℕ → Type 0
AreFinalLines g first count pixels = (t : ScanValue) → GrowsInto g t → (b : DecodedScan) → DecodesFirst t (length t.intervals) b → pixels ≡ next_lines_of t.head (samples_of b) first count
