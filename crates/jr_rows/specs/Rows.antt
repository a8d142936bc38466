-- The rows of MCUs of a scan, of which the first intervals are decoded, and what is known of each.
use Rattle.std.specs.Prelude.{◌≡◌, ℕ, ◌+◌, ◌-◌, ◌*◌, ◌/◌, ◌%◌, ◌<◌, ◌≤◌, List, [], length, min, nat_le, take, count_by, if◌then◌else◌, slice_index_or, ℤ}
use Rattle.jr_head.specs.HeadValue.{HeadValue}
use Rattle.jr_head.specs.Geometry.{blocks_of, mcus_across, mcus_down, mcus_of, vertical_max}
use Rattle.jr_scan.specs.ScanValue.{ScanValue, intervals_of}
use Rattle.jr_scan.specs.FirstIntervalsValue.{FirstIntervalsValue}
use Rattle.jr_paint.specs.Lines.{line_space, next_lines_of}
use Rattle.jr_piece.specs.Outcome.{unit_of}
use Rattle.jr_picture.specs.DecodedScan.{DecodedScan, IsDecodedScan, marks_of}
use Rattle.jr_picture.specs.Headline.{AreFirst, is_sound, is_damaged, interval_number}
use Rattle.jr_picture.specs.Samples.{samples_of}
use Rattle.jr_rows.specs.Bands.{ShowsMcus, unit_shown}
use Rattle.jr_rows.specs.Groups.{units_in}
use Rattle.jr_rows.specs.RowLines.{HasLines, mcus_at_once}
use Rattle.jr_rows.specs.Cursors.{IsCursorOf, mcus_to}
use Rattle.jr_rows.specs.RowsValue.{SampleRowValue}
use Rattle.jr_rows.specs.declared.marked.Marked.{Marked}
use Rattle.jr_rows.specs.declared.rows.Rows.{Rows}

-- the scan with its first n intervals decoded, and no other
pub record DecodesFirst (scan : ScanValue) (n : ℕ) (b : DecodedScan) : Type 0 where
  pub scan_is : b.scan ≡ scan
  pub valid : IsDecodedScan b
  pub first : AreFirst n (marks_of b)

-- the MCUs of the first n intervals
abbrev pub mcus_before : HeadValue → ℕ → ℕ
mcus_before h n = if nat_le (intervals_of h) n then mcus_of h else n * h.restart

-- the intervals that end among the first m MCUs
abbrev pub intervals_before : HeadValue → ℕ → ℕ
intervals_before h m = if nat_le (mcus_of h) m then intervals_of h else interval_number h m

-- the number of MCUs that are decoded before a row of MCUs, if the first n intervals are
abbrev pub coded_before : HeadValue → (n row : ℕ) → ℕ
coded_before h n row = min (row * mcus_across h) (mcus_before h n)

-- the number of a row's first MCUs that are decoded
abbrev pub coded_in : HeadValue → (n row : ℕ) → ℕ
coded_in h n row = coded_before h n (row + 1) - coded_before h n row

-- the cursor is where the decoded MCUs of the next row start
pub record AreRowsOf (part : FirstIntervalsValue) (r : Rows) : Type 0 where
  pub lies : IsCursorOf part.scan r.cursor
  pub at : mcus_to part.scan.head r.cursor ≡ coded_before part.scan.head part.limit r.row

-- the numbers of the intervals starting at number `from` and before `to` that are sound and damaged, if the first n are decoded
pub record CountsMarks (scan : ScanValue) (n from to : ℕ) (m : Marked) : Type 0 where
  pub few : from + (m.sound + m.damaged) ≤ to
  pub sound : (b : DecodedScan) → DecodesFirst scan n b → count_by is_sound (take from (marks_of b)) + m.sound ≡ count_by is_sound (take to (marks_of b))
  pub damaged : (b : DecodedScan) → DecodesFirst scan n b → count_by is_damaged (take from (marks_of b)) + m.damaged ≡ count_by is_damaged (take to (marks_of b))

-- the marks of the intervals that end among MCUs `from` to `to`
abbrev pub CountsMcus : ScanValue → (n from to : ℕ) → Marked → Type 0
CountsMcus scan n from to m = CountsMarks scan n (intervals_before scan.head from) (intervals_before scan.head to) m

-- the samples of the first `mcus` MCUs of these blocks are those of the decoded scan starting at MCU `from`
abbrev pub ReturnsMcus : ScanValue → (n from mcus : ℕ) → List (List ℤ) → Type 0
ReturnsMcus scan n from mcus blocks = (b : DecodedScan) → DecodesFirst scan n b → (k : ℕ) → k < mcus * blocks_of scan.head
    → unit_of scan.head blocks k ≡ unit_shown b (from + k / blocks_of scan.head) (k % blocks_of scan.head)

-- the same of the blocks after the first `before`
abbrev pub ReturnsAfter : ScanValue → (n from before mcus : ℕ) → List (List ℤ) → Type 0
ReturnsAfter scan n from before mcus blocks = (b : DecodedScan) → DecodesFirst scan n b → (k : ℕ) → k < mcus * blocks_of scan.head
    → unit_of scan.head blocks (before + k) ≡ unit_shown b (from + k / blocks_of scan.head) (k % blocks_of scan.head)

-- the data units of `mcus` MCUs, after the first `before`, are those of the decoded scan starting at MCU `from`
abbrev pub ShowsAfter : ScanValue → (n from before mcus : ℕ) → List (List ℕ) → Type 0
ShowsAfter scan n from before mcus units = (b : DecodedScan) → DecodesFirst scan n b → (k : ℕ) → k < mcus * blocks_of scan.head
    → slice_index_or units (before + k) [] ≡ unit_shown b (from + k / blocks_of scan.head) (k % blocks_of scan.head)

-- the same of the first ones
abbrev pub ShowsFirstUnits : ScanValue → (n from mcus : ℕ) → List (List ℕ) → Type 0
ShowsFirstUnits scan n from mcus units = (b : DecodedScan) → DecodesFirst scan n b → (k : ℕ) → k < mcus * blocks_of scan.head
    → slice_index_or units k [] ≡ unit_shown b (from + k / blocks_of scan.head) (k % blocks_of scan.head)

-- the blocks of a row's decoded MCUs are read
abbrev pub AreRead : ScanValue → (n row : ℕ) → List (List ℤ) → Type 0
AreRead scan n row blocks = ReturnsMcus scan n (coded_before scan.head n row) (coded_in scan.head n row) blocks

-- the marks of the intervals that end in a row of MCUs
abbrev pub CountsRow : ScanValue → (n row : ℕ) → Marked → Type 0
CountsRow scan n row m = CountsMcus scan n (coded_before scan.head n row) (coded_before scan.head n (row + 1)) m

-- the marks of the intervals that end in all rows
abbrev pub CountsRows : ScanValue → (n : ℕ) → Marked → Type 0
CountsRows scan n m = CountsMcus scan n (coded_before scan.head n 0) (coded_before scan.head n (mcus_down scan.head)) m

-- the samples of a row of MCUs, the blocks of those that are read at once, and the scratch space for painting fit
pub record HasSampleSpace (h : HeadValue) (r : SampleRowValue) : Type 0 where
  pub blocks : length r.blocks ≡ mcus_at_once h * blocks_of h
  pub lines : HasLines h r.lines
  pub space : r.space ≡ line_space h

-- the first line of pixels of a row of MCUs, and the number of its lines
abbrev pub first_line : HeadValue → ℕ → ℕ
first_line h row = row * (8 * vertical_max h)

abbrev pub line_count : HeadValue → ℕ → ℕ
line_count h row = min (8 * vertical_max h) (h.height - first_line h row)

-- these are the lines of a row of MCUs of the decoded scan
abbrev pub ShowsLines : ScanValue → (n row : ℕ) → List ℕ → Type 0
ShowsLines scan n row pixels = (b : DecodedScan) → DecodesFirst scan n b
    → pixels ≡ next_lines_of scan.head (samples_of b) (first_line scan.head row) (line_count scan.head row)

-- the same, of each decoded scan with this header that has these samples there
abbrev pub PaintsRowLines : HeadValue → (row : ℕ) → (groups : List (List ℕ)) → List ℕ → Type 0
PaintsRowLines h row groups pixels = (b : DecodedScan) → b.scan.head ≡ h → ShowsMcus b (row * mcus_across h) (units_in h groups)
    → pixels ≡ next_lines_of h (samples_of b) (first_line h row) (line_count h row)
