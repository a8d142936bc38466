-- The results of the calls that decode or skip rows of MCUs starting at a position.
use Rattle.std.specs.Prelude.{◌≡◌, ◌≢◌, ℕ, ◌-◌, ◌+◌, ◌*◌, ◌<◌, ◌≤◌, ◌⊎◌, ◌==◌, min, Bool, true, false, List, length, take, drop}
use Rattle.jr_segments.specs.declared.refusal.Refusal.{Refusal}
use Rattle.jr_segments.specs.declared.refusal.Refusal.TheVariants.{Memory}
use Rattle.jr_segments.specs.Refusal.{number_of}
use Rattle.jr_head.specs.HeadValue.{HeadValue}
use Rattle.jr_head.specs.Heads.{HeadOf, RefusalOf}
use Rattle.jr_head.specs.Geometry.{mcus_down}
use Rattle.jr_paint.specs.Lines.{line_size}
use Rattle.jr_arrival.specs.Arrival.{IsFinalFault}
use Rattle.jr_arrival.specs.Settled.{WantsMore}
use Rattle.jr_scan.specs.ScanValue.{ScanValue}
use Rattle.jr_arrival.specs.Meaning.{IsPlaceIn, MayBe, offset_in}
use Rattle.jr_arrival.specs.Parts.{FilePart, part_at}
use Rattle.jr_arrival.specs.Shown.{AreLines, LeavesRowAt}
use Rattle.jr_arrival.specs.declared.place.RowPlace.{RowPlace}
use Rattle.jr_arrival.specs.Places.{IsPlaceOf, lines_above, lines_between, rows_to_give, rows_with_space}
use Rattle.jri_memory.specs.Calls.{detail_number}
use Rattle.jri_memory.specs.declared.places.PlaceError.{PlaceError}
use Rattle.jri_memory.specs.declared.places.PlaceError.TheVariants.{Refused, NoRows, BufferTooSmall, NotInWindow}
use Rattle.jri_memory.specs.declared.rows_report.RowsReport.{RowsReport}

-- whether bytes are all of their file, by the number that a caller passes
abbrev pub are_all : ℕ → Bool
are_all more = more == 0

-- the first bytes of a file
abbrev pub file_part : (bytes : List ℕ) (more : ℕ) → FilePart
file_part bytes more = part_at 0 bytes (are_all more)

-- bytes of a file starting at an offset
abbrev pub window_part : (from : ℕ) (bytes : List ℕ) (more : ℕ) → FilePart
window_part from bytes more = part_at from bytes (are_all more)

-- a report of no rows
pub record ReportsNoRows (r : RowsReport) : Type 0 where
  pub rows : r.rows ≡ 0
  pub lines : r.lines ≡ 0
  pub first : r.first_line ≡ 0

-- a report of no rows and no refusal
pub record ReportsNothing (r : RowsReport) : Type 0 where
  pub no_rows : ReportsNoRows r
  pub refusal : r.refusal ≡ 0
  pub detail : r.detail ≡ 0

-- the bytes' first fault; if more bytes may come it is that of each longer file
pub record IsPartialFault (bytes : List ℕ) (all : Bool) (fault : Refusal) : Type 0 where
  pub is : RefusalOf bytes fault
  pub stays : all ≡ false → IsFinalFault bytes fault

-- it has this number and this detail
pub record ReportsPartialFault (bytes : List ℕ) (all : Bool) (r : RowsReport) : Type 0 where
  pub fault : Refusal
  pub is : IsPartialFault bytes all fault
  pub number_is : r.refusal ≡ number_of fault
  pub detail_is : r.detail ≡ detail_number fault

-- the image with this header has a row of MCUs at the position, and some are requested
pub record HasRowAt (h : HeadValue) (p : RowPlace) (rows : ℕ) : Type 0 where
  pub lies : IsPlaceOf h p
  pub row : p.row < mcus_down h
  pub some : 0 < rows

-- the position has moved by rows of MCUs, at most by `most`: by `most` if the file ends with the part, otherwise to the first row that
-- the part does not make final. If it was one of a file that may have this part, it still is. The report has the numbers of the rows and
-- of their lines
pub record MovesOn (header : List ℕ) (x : FilePart) (most : ℕ) (old new : RowPlace) (h : HeadValue) (r : RowsReport) : Type 0 where
  pub head : HeadOf header h
  pub from : IsPlaceOf h old
  pub to : IsPlaceOf h new
  pub row : new.row ≡ old.row + r.rows
  pub few : r.rows ≤ most
  pub whole : x.are_all ≡ true → r.rows ≡ most
  pub next : r.rows < most → LeavesRowAt x h old new.row
  pub none : r.rows ≡ 0 → new ≡ old
  pub place : (whole : List ℕ) (t : ScanValue) → MayBe x h whole t → IsPlaceIn x whole t old → IsPlaceIn x whole t new
  pub lines : r.lines ≡ lines_between h old.row new.row
  pub first : r.first_line ≡ lines_above h old.row
  pub refusal : r.refusal ≡ 0
  pub detail : r.detail ≡ 0

-- more bytes may come and are wanted for a header: no row is returned, and the position is unchanged
pub record AwaitsHead (header : List ℕ) (x : FilePart) (old new : RowPlace) (r : RowsReport) : Type 0 where
  pub more : x.are_all ≡ false
  pub wanted : WantsMore header
  pub place : new ≡ old
  pub stated : ReportsNothing r

-- rows are decoded, those requested that fit into the pixels, of which the next does: their lines are those of the image of each file that may have
-- this part and of which the position was one; what follows their lines is unchanged
pub record DecodesRows (header : List ℕ) (x : FilePart) (rows : ℕ) (old new : RowPlace) (old_pixels pixels : List ℕ) (r : RowsReport) : Type 0 where
  pub h : HeadValue
  pub there : HasRowAt h old rows
  pub space : 0 < rows_with_space h old.row (length old_pixels)
  pub moves : MovesOn header x (rows_to_give h old.row rows (length old_pixels)) old new h r
  pub are : AreLines x h old (lines_above h old.row) r.lines (take (r.lines * line_size h) pixels)
  pub long : length pixels ≡ length old_pixels
  pub after : drop (r.lines * line_size h) pixels ≡ drop (r.lines * line_size h) old_pixels

-- of a header's bytes, and a part of the file
abbrev pub ReturnsRows : (header : List ℕ) → FilePart → (rows : ℕ) (old new : RowPlace) (old_pixels pixels : List ℕ) → RowsReport → Type 0
ReturnsRows header x rows old new old_pixels pixels r = (AwaitsHead header x old new r × (pixels ≡ old_pixels)) ⊎ DecodesRows header x rows old new old_pixels pixels r

-- the requested rows are skipped
pub record PassesRows (header : List ℕ) (x : FilePart) (rows : ℕ) (old new : RowPlace) (r : RowsReport) : Type 0 where
  pub h : HeadValue
  pub there : HasRowAt h old rows
  pub moves : MovesOn header x (min rows (mcus_down h - old.row)) old new h r

abbrev pub SkipsRows : (header : List ℕ) → FilePart → (rows : ℕ) (old new : RowPlace) → RowsReport → Type 0
SkipsRows header x rows old new r = AwaitsHead header x old new r ⊎ PassesRows header x rows old new r

-- the bytes' image has no row of MCUs at the position, or none is requested
pub record LacksRows (bytes : List ℕ) (p : RowPlace) (rows : ℕ) : Type 0 where
  pub h : HeadValue
  pub is : HeadOf bytes h
  pub none : HasRowAt h p rows → ⊥

-- the bytes' image has a row of MCUs at the position and some are requested, but its lines do not fit into that number of bytes
pub record LacksSpaceForRow (bytes : List ℕ) (p : RowPlace) (rows space : ℕ) : Type 0 where
  pub h : HeadValue
  pub is : HeadOf bytes h
  pub there : HasRowAt h p rows
  pub less : rows_with_space h p.row space ≡ 0

-- the position is at a byte of the part, or after its last one
pub record IsInPart (x : FilePart) (h : HeadValue) (p : RowPlace) : Type 0 where
  pub from : x.from ≤ offset_in h p
  pub to : offset_in h p ≤ x.from + length x.bytes

-- the image with this header has a row of MCUs at the position, which is at such a byte
pub record LiesInside (header : List ℕ) (x : FilePart) (p : RowPlace) (rows : ℕ) : Type 0 where
  pub h : HeadValue
  pub is : HeadOf header h
  pub there : HasRowAt h p rows
  pub within : IsInPart x h p

-- or at no such byte
pub record LiesOutside (header : List ℕ) (x : FilePart) (p : RowPlace) (rows : ℕ) : Type 0 where
  pub h : HeadValue
  pub is : HeadOf header h
  pub there : HasRowAt h p rows
  pub out : IsInPart x h p → ⊥

-- why a position is not moved
abbrev pub IsWhy : (header : List ℕ) → FilePart → (p : RowPlace) (rows space : ℕ) → PlaceError → Type 0
IsWhy header x p rows space (Refused fault) = fault ≢ Memory → IsPartialFault header x.are_all fault
IsWhy header x p rows space NoRows = LacksRows header p rows
IsWhy header x p rows space BufferTooSmall = LacksSpaceForRow header p rows space
IsWhy header x p rows space NotInWindow = LiesOutside header x p rows

-- it is not moved since the bytes are refused, and the report says so
pub record IsRefusedPlace (unmoved : PlaceError) (r : RowsReport) : Type 0 where
  pub fault : Refusal
  pub is : unmoved ≡ Refused fault
  pub other : fault ≢ Memory
  pub number_is : r.refusal ≡ number_of fault
  pub detail_is : r.detail ≡ detail_number fault
