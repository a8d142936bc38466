-- The result of the call that checks a file in memory: the marks of its intervals, and no image.
use Rattle.std.specs.Prelude.{◌≡◌, ℕ, ◌+◌, ◌<◌, List, length, map, count_by, slice_index}
use Rattle.jr_head.specs.HeadValue.{HeadValue}
use Rattle.jr_head.specs.Heads.{HeadOf}
use Rattle.jr_scan.specs.IntervalValue.{IntervalValue}
use Rattle.jr_scan.specs.Mcus.{HasDecoding, HasNoDecoding}
use Rattle.jr_scan.specs.ScanValue.{ScanValue, interval_of, intervals_of}
use Rattle.jr_picture.specs.declared.mark.Mark.{Mark}
use Rattle.jr_picture.specs.declared.mark.Mark.TheVariants.{Blank, Sound, Damaged}
use Rattle.jr_picture.specs.Headline.{mark_in, is_sound, is_damaged}
use Rattle.jr_rows.specs.MarkBytes.{mark_byte}
use Rattle.jr_rows.specs.declared.marked.Marked.{Marked}
use Rattle.jri_file.specs.Files.{IsScanOfFile}
use Rattle.jri_memory.specs.Calls.{ReportsReport, over}
use Rattle.jri_memory.specs.declared.report.DecodeReport.{DecodeReport}

-- the mark of an interval that is read to its end: it has a decoding, or it has none
abbrev pub IsMarkOf : IntervalValue → Mark → Type 0
IsMarkOf i Sound = HasDecoding i
IsMarkOf i Damaged = HasNoDecoding i
IsMarkOf i Blank = ⊥

-- the marks of the first n intervals of a scan
pub record AreMarksOf (scan : ScanValue) (n : ℕ) (marks : List Mark) : Type 0 where
  pub long : length marks ≡ n
  pub each : (i : ℕ) → i < n → IsMarkOf (interval_of scan i) (mark_in marks i)

-- they are counted, and written if there is space for marks
pub record AreStored (scan : ScanValue) (n : ℕ) (counted : Marked) (bytes : List ℕ) (marks : List Mark) : Type 0 where
  pub are : AreMarksOf scan n marks
  pub sound : counted.sound ≡ count_by is_sound marks
  pub damaged : counted.damaged ≡ count_by is_damaged marks
  pub all : counted.sound + counted.damaged ≡ n
  pub store : 0 < length bytes → (i : ℕ) → i < n → slice_index bytes i ≡ mark_byte (mark_in marks i)

-- each interval of the file's scan has its mark; marks that were asked for are these, and so is the report
pub record ChecksFile (file old_marks marks : List ℕ) (r : DecodeReport) : Type 0 where
  pub scan : ScanValue
  pub each : List Mark
  pub is : IsScanOfFile file scan
  pub are : AreMarksOf scan (length scan.intervals) each
  pub marked : 0 < length old_marks → marks ≡ over (map mark_byte each) old_marks
  pub reported : ReportsReport scan each r

-- the marks of the file's intervals were asked for and do not fit
pub record LacksMarkSpace (file : List ℕ) (marks : ℕ) : Type 0 where
  pub head : HeadValue
  pub is : HeadOf file head
  pub asked : 0 < marks
  pub less : marks < intervals_of head
