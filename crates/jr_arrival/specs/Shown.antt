-- What a row of MCUs shows as it is decoded, in each file of which the bytes may be a part.
use Rattle.std.specs.Prelude.{◌≡◌, ℕ, ◌*◌, List, length}
use Rattle.jr_head.specs.HeadValue.{HeadValue}
use Rattle.jr_head.specs.Geometry.{mcus_across}
use Rattle.jr_paint.specs.Lines.{next_lines_of}
use Rattle.jr_scan.specs.ScanValue.{ScanValue}
use Rattle.jr_picture.specs.declared.mark.Mark.{Mark}
use Rattle.jr_picture.specs.Headline.{ShowsFirst}
use Rattle.jr_rows.specs.Groups.{units_in}
use Rattle.jr_rows.specs.Rows.{ShowsFirstUnits}
use Rattle.jr_arrival.specs.declared.place.RowPlace.{RowPlace}
use Rattle.jr_arrival.specs.LongerFile.{RowIsSettled}
use Rattle.jr_arrival.specs.Meaning.{IsPlaceIn, MayBe}
use Rattle.jr_arrival.specs.Parts.{FilePart, last_part}

-- all MCUs of the row are those of the image
abbrev pub ShowsRow : ScanValue → (row : ℕ) → List (List ℕ) → Type 0
ShowsRow t row groups = ShowsFirstUnits t (length t.intervals) (row * mcus_across t.head) (mcus_across t.head) (units_in t.head groups)

-- no file that ends with this part, and of which this is a position, makes that row of MCUs final
abbrev pub LeavesRowAt : FilePart → HeadValue → RowPlace → (row : ℕ) → Type 0
LeavesRowAt x h p row = (so_far : List ℕ) (s : ScanValue) → MayBe (last_part x) h so_far s → IsPlaceIn x so_far s p → RowIsSettled so_far s row → ⊥

-- these are n lines of the image of each file that may have this part and of which this is a position, starting at this line
abbrev pub AreLines : FilePart → HeadValue → RowPlace → (first count : ℕ) → List ℕ → Type 0
AreLines x h p first count pixels = (whole : List ℕ) (t : ScanValue) (marks : List Mark) (f : ℕ → ℕ → ℕ → ℕ) → MayBe x h whole t → IsPlaceIn x whole t p
    → ShowsFirst t (length t.intervals) marks f → pixels ≡ next_lines_of h f first count
