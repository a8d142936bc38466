-- Some lines of a scan's image.
use Rattle.std.specs.Prelude.{◌≡◌, ℕ, ◌+◌, ◌*◌, ◌/◌, List, length, take, count_by}
use Rattle.std.specs.Int.{div_ceil}
use Rattle.jr_head.specs.HeadValue.{HeadValue}
use Rattle.jr_head.specs.Geometry.{vertical_max}
use Rattle.jr_paint.specs.Lines.{next_lines_of}
use Rattle.jr_scan.specs.ScanValue.{ScanValue}
use Rattle.jr_picture.specs.declared.mark.Mark.{Mark}
use Rattle.jr_picture.specs.Headline.{ShowsFirst, is_sound, is_damaged}
use Rattle.jr_rows.specs.Rows.{CountsMcus, coded_before, intervals_before}
use Rattle.jr_rows.specs.declared.marked.Marked.{Marked}

-- the row of MCUs that has a line, and the one after the rows that have the lines before `end`
abbrev pub row_with : HeadValue → ℕ → ℕ
row_with h y = y / (8 * vertical_max h)

abbrev pub row_after : HeadValue → ℕ → ℕ
row_after h end = div_ceil end (8 * vertical_max h)

-- the marks of the intervals that end in the rows of MCUs starting at one and before another, if all are decoded
abbrev pub CountsBetween : ScanValue → (from to : ℕ) → Marked → Type 0
CountsBetween scan from to m =
    let n = length scan.intervals in CountsMcus scan n (coded_before scan.head n from) (coded_before scan.head n to) m

-- the number of intervals that end before a row of MCUs
abbrev pub ended_before : ScanValue → ℕ → ℕ
ended_before scan row = intervals_before scan.head (coded_before scan.head (length scan.intervals) row)

-- the numbers of the intervals that end in the rows of MCUs of these lines and are sound and damaged
pub record EndInLines (scan : ScanValue) (first count : ℕ) (marks : List Mark) (sound damaged : ℕ) : Type 0 where
  pub sound_are : count_by is_sound (take (ended_before scan (row_with scan.head first)) marks) + sound ≡ count_by is_sound (take (ended_before scan (row_after scan.head (first + count))) marks)
  pub damaged_are : count_by is_damaged (take (ended_before scan (row_with scan.head first)) marks) + damaged ≡ count_by is_damaged (take (ended_before scan (row_after scan.head (first + count))) marks)

-- these are lines of the scan's image, `count` of them starting at this one, and the numbers of sound and damaged intervals that
-- end in their rows of MCUs
pub record PaintsLines (scan : ScanValue) (first count : ℕ) (pixels : List ℕ) (m : Marked) : Type 0 where
  pub marks : List Mark
  pub f : ℕ → ℕ → ℕ → ℕ
  pub shows : ShowsFirst scan (length scan.intervals) marks f
  pub lines : pixels ≡ next_lines_of scan.head f first count
  pub counted : EndInLines scan first count marks m.sound m.damaged
