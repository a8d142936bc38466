-- What the calls that decode a file in memory return.
use Rattle.std.specs.Prelude.{◌≡◌, ◌≢◌, ℕ, ◌+◌, ◌*◌, ◌<◌, ◌≤◌, ◌⊎◌, List, [], ◌∷◌, ◌++◌, length, drop, map, None, unwrap_or}
use Rattle.jr_segments.specs.declared.refusal.Refusal.{Refusal}
use Rattle.jr_segments.specs.declared.refusal.Refusal.TheVariants as refusal
use Rattle.jr_segments.specs.Refusal.{detail_of, number_of}
use Rattle.jr_head.specs.HeadValue.{HeadValue, kind_number}
use Rattle.jr_head.specs.Heads.{HeadOf, RefusalOf}
use Rattle.jr_head.specs.Geometry.{components_of, horizontal_max, horizontal_of, mcus_across, mcus_down, mcus_of, vertical_max, vertical_of}
use Rattle.jr_paint.specs.Lines.{line_size, next_lines_of}
use Rattle.jr_paint.specs.Text.{lines_of}
use Rattle.jr_scan.specs.ScanValue.{ScanValue, intervals_of}
use Rattle.jr_cut.specs.declared.scan_end.ScanEnd.{ScanEnd}
use Rattle.jr_cut.specs.declared.scan_end.ScanEnd.TheVariants.{EndOfImage, OtherMarker, OutOfStep, ExtraRestart, EndOfFile}
use Rattle.jr_picture.specs.declared.mark.Mark.{Mark}
use Rattle.jr_picture.specs.Headline.{AreCounts}
use Rattle.jri_file.specs.Files.{IsPictureOf}
use Rattle.jr_rows.specs.MarkBytes.{mark_byte}
use Rattle.jr_rows.specs.SomeLines.{EndInLines}
use Rattle.jri_memory.specs.Frames.{HasOneSize, LacksSize}
use Rattle.jri_memory.specs.declared.decode.DecodeError.{DecodeError}
use Rattle.jri_memory.specs.declared.decode.DecodeError.TheVariants.{Refused}
use Rattle.jri_memory.specs.declared.header.Header.{Header}
use Rattle.jri_memory.specs.declared.report.DecodeReport.{DecodeReport}

-- the detail of a refusal next to its number; 0 if it has none
abbrev pub detail_number : Refusal → ℕ
detail_number fault = unwrap_or (detail_of fault) 0

-- some refusal has this number
abbrev pub IsNumberOfSome : ℕ → Type 0
IsNumberOfSome number = (0 < number) × (number < 20)

-- the file's first fault has this number and this detail
pub record ReportsFault (file : List ℕ) (number detail : ℕ) : Type 0 where
  pub fault : Refusal
  pub is : RefusalOf file fault
  pub number_is : number ≡ number_of fault
  pub detail_is : detail ≡ detail_number fault

-- the number of bytes of the pixels of an image
abbrev pub picture_size : HeadValue → ℕ
picture_size h = h.height * line_size h

-- a number for each of three components
abbrev pub of_three : (ℕ → ℕ) → List ℕ
of_three each = each 0 ∷ each 1 ∷ each 2 ∷ []

-- what the file's header says about its image; the sampling factors of a component that it does not have are 0
pub record IsHeaderOf (file : List ℕ) (m : Header) : Type 0 where
  pub head : HeadValue
  pub is : HeadOf file head
  pub width : m.width ≡ head.width
  pub height : m.height ≡ head.height
  pub kind : m.kind ≡ kind_number head.kind
  pub components : m.components ≡ components_of head
  pub intervals : m.intervals ≡ intervals_of head
  pub pixels : m.pixels ≡ picture_size head
  pub scan_at : m.scan_at ≡ head.scan_at
  pub restart : m.restart ≡ head.restart
  pub mcu_width : m.mcu_width ≡ 8 * horizontal_max head
  pub mcu_height : m.mcu_height ≡ 8 * vertical_max head
  pub across : m.mcus_across ≡ mcus_across head
  pub down : m.mcus_down ≡ mcus_down head
  pub mcus : m.mcus ≡ mcus_of head
  pub horizontal : m.horizontal ≡ of_three (horizontal_of head)
  pub vertical : m.vertical ≡ of_three (vertical_of head)
  pub no_fault : m.refusal ≡ 0
  pub no_detail : m.detail ≡ 0

-- of no header: 0 for all but the size and the refusal's two numbers
pub record ReportsNoHeader (m : Header) : Type 0 where
  pub kind : m.kind ≡ 0
  pub intervals : m.intervals ≡ 0
  pub pixels : m.pixels ≡ 0
  pub scan_at : m.scan_at ≡ 0
  pub restart : m.restart ≡ 0
  pub mcu_width : m.mcu_width ≡ 0
  pub mcu_height : m.mcu_height ≡ 0
  pub across : m.mcus_across ≡ 0
  pub down : m.mcus_down ≡ 0
  pub mcus : m.mcus ≡ 0
  pub horizontal : m.horizontal ≡ of_three (λ _. 0)
  pub vertical : m.vertical ≡ of_three (λ _. 0)

-- of no frame header: no size
pub record ReportsNoSize (m : Header) : Type 0 where
  pub width : m.width ≡ 0
  pub height : m.height ≡ 0
  pub components : m.components ≡ 0

-- the size in the file's first frame header, or none if it has none
abbrev pub ReportsSize : List ℕ → Header → Type 0
ReportsSize file m = HasOneSize file m.width m.height m.components ⊎ (ReportsNoSize m × LacksSize file)

-- what ended the scan, as numbers: 0 for what that end has not
abbrev pub IsScanEnd : ScanEnd → (ended found due at : ℕ) → Type 0
IsScanEnd EndOfImage ended found due at = (ended ≡ 1) × (found ≡ 0) × (due ≡ 0) × (at ≡ 0)
IsScanEnd (OtherMarker code offset) ended found due at = (ended ≡ 2) × (found ≡ code) × (due ≡ 0) × (at ≡ offset)
IsScanEnd (OutOfStep number expected offset) ended found due at = (ended ≡ 3) × (found ≡ number) × (due ≡ expected) × (at ≡ offset)
IsScanEnd (ExtraRestart offset) ended found due at = (ended ≡ 4) × (found ≡ 0) × (due ≡ 0) × (at ≡ offset)
IsScanEnd EndOfFile ended found due at = (ended ≡ 5) × (found ≡ 0) × (due ≡ 0) × (at ≡ 0)

abbrev pub ReportsScanEnd : ScanEnd → DecodeReport → Type 0
ReportsScanEnd end r = IsScanEnd end r.ended r.found r.due r.at

-- a report of no refusal
pub record ReportsNoRefusal (r : DecodeReport) : Type 0 where
  pub number : r.refusal ≡ 0
  pub detail : r.detail ≡ 0

-- a report of no image: 0 for all but the refusal's two numbers
pub record ReportsNoPicture (r : DecodeReport) : Type 0 where
  pub intervals : r.intervals ≡ 0
  pub sound : r.sound ≡ 0
  pub damaged : r.damaged ≡ 0
  pub blank : r.blank ≡ 0
  pub ended : r.ended ≡ 0
  pub found : r.found ≡ 0
  pub due : r.due ≡ 0
  pub at : r.at ≡ 0

-- the report's numbers are those of the marks and of the scan
pub record ReportsReport (scan : ScanValue) (marks : List Mark) (r : DecodeReport) : Type 0 where
  pub intervals : r.intervals ≡ length scan.intervals
  pub counts : AreCounts marks r.sound r.damaged r.blank
  pub ended : ReportsScanEnd scan.ended r
  pub no_fault : ReportsNoRefusal r

-- these bytes are the first ones of a buffer, and the bytes after them are unchanged
abbrev pub over : List ℕ → List ℕ → List ℕ
over bytes old = bytes ++ drop (length bytes) old

-- the pixels are the lines of the file's image, from the top; marks that were asked for are its own; and so is the report
pub record DecodesFile (file old_pixels pixels old_marks marks : List ℕ) (r : DecodeReport) : Type 0 where
  pub scan : ScanValue
  pub each : List Mark
  pub f : ℕ → ℕ → ℕ → ℕ
  pub is : IsPictureOf file None scan each f
  pub painted : pixels ≡ over (lines_of scan.head f scan.head.height) old_pixels
  pub marked : 0 < length old_marks → marks ≡ over (map mark_byte each) old_marks
  pub reported : ReportsReport scan each r

-- the pixels of the file's image do not fit, or its marks, which were asked for, do not
pub record LacksSpace (file : List ℕ) (pixels marks : ℕ) : Type 0 where
  pub head : HeadValue
  pub is : HeadOf file head
  pub less : (pixels < picture_size head) ⊎ ((0 < marks) × (marks < intervals_of head))

-- the image with this header has `count` lines starting at this one, and that is more than 0
pub record HasTheseLines (h : HeadValue) (first count : ℕ) : Type 0 where
  pub some : 0 < count
  pub inside : first + count ≤ h.height

-- the file's image does not have those lines
pub record LacksLines (file : List ℕ) (first count : ℕ) : Type 0 where
  pub head : HeadValue
  pub is : HeadOf file head
  pub less : HasTheseLines head first count → ⊥

-- that number of lines of the file's image does not fit
pub record LacksSpaceForLines (file : List ℕ) (count pixels : ℕ) : Type 0 where
  pub head : HeadValue
  pub is : HeadOf file head
  pub less : pixels < count * line_size head

-- the pixels are lines of the file's image, `count` of them starting at this one; the report counts the intervals that end in
-- their rows of MCUs
pub record DecodesLines (file : List ℕ) (first count : ℕ) (old_pixels pixels : List ℕ) (r : DecodeReport) : Type 0 where
  pub scan : ScanValue
  pub each : List Mark
  pub f : ℕ → ℕ → ℕ → ℕ
  pub is : IsPictureOf file None scan each f
  pub there : HasTheseLines scan.head first count
  pub painted : pixels ≡ over (next_lines_of scan.head f first count) old_pixels
  pub counted : EndInLines scan first count each r.sound r.damaged
  pub blank : r.blank ≡ 0
  pub intervals : r.intervals ≡ length scan.intervals
  pub ended : ReportsScanEnd scan.ended r
  pub no_fault : ReportsNoRefusal r

-- nothing was decoded since the file is refused, and the report says so
pub record IsRefusal (undecoded : DecodeError) (r : DecodeReport) : Type 0 where
  pub fault : Refusal
  pub is : undecoded ≡ Refused fault
  pub other : fault ≢ refusal.Memory
  pub number_is : r.refusal ≡ number_of fault
  pub detail_is : r.detail ≡ detail_number fault
