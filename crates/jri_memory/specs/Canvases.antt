-- Lines and images on a canvas.
use Rattle.std.specs.Prelude.{◌≡◌, ◌≢◌, ℕ, ◌*◌, ◌<◌, ◌≤◌, ◌⊎◌, List, length, map, None}
use Rattle.jr_head.specs.HeadValue.{HeadValue}
use Rattle.jr_head.specs.Heads.{HeadOf}
use Rattle.jr_head.specs.Geometry.{components_of}
use Rattle.jr_paint.specs.Lines.{line_of}
use Rattle.jr_picture.specs.declared.counts.Counts.{Counts}
use Rattle.jr_picture.specs.declared.mark.Mark.{Mark}
use Rattle.jr_picture.specs.Headline.{AreCounts, ShowsFirst}
use Rattle.jr_rows.specs.MarkBytes.{mark_byte}
use Rattle.jr_scan.specs.ScanValue.{ScanValue, intervals_of}
use Rattle.jri_file.specs.Files.{IsPictureOf}
use Rattle.jri_canvas.specs.Layouts.{HavePlaces, LieOn, laid_line, laid_line_size, layout_number, line_in, plain_line_size, sample_count}
use Rattle.jri_canvas.specs.declared.lines.CanvasLines.{CanvasLines}
use Rattle.jri_memory.specs.Calls.{ReportsReport, over}
use Rattle.jri_memory.specs.declared.report.DecodeReport.{DecodeReport}

-- a canvas has lines of this form, by the numbers of a call
pub record HasNumbers (width components stride layout : ℕ) (c : CanvasLines) : Type 0 where
  pub width_is : c.width ≡ width
  pub components_are : sample_count c.pixels ≡ components
  pub stride_is : c.stride ≡ stride
  pub layout_is : layout_number c.layout ≡ layout

-- and none reaches into the next
pub record HasForm (width components stride layout : ℕ) (c : CanvasLines) : Type 0 where
  pub numbers : HasNumbers width components stride layout c
  pub narrow : laid_line_size c ≤ stride

-- a line that is longer than the stride
pub record IsTooWide (width components stride layout : ℕ) : Type 0 where
  pub form : CanvasLines
  pub numbers : HasNumbers width components stride layout form
  pub wide : stride < laid_line_size form

-- there is no such layout, or a line is longer than the stride
abbrev pub LacksLayout : (width components stride layout : ℕ) → Type 0
LacksLayout width components stride layout = (4 < layout) ⊎ IsTooWide width components stride layout

-- all lines are laid out, from the top of the canvas
pub record LaysOut (lines : List ℕ) (width components stride layout : ℕ) (old new : List ℕ) : Type 0 where
  pub form : CanvasLines
  pub is : HasForm width components stride layout form
  pub count : ℕ
  pub all : length lines ≡ count * plain_line_size form
  pub lie : LieOn form 0 count (λ k. laid_line form (line_in (plain_line_size form) lines k)) old new

-- that number of lines does not fit
pub record LacksPlaces (width components stride layout count space : ℕ) : Type 0 where
  pub form : CanvasLines
  pub is : HasForm width components stride layout form
  pub less : HavePlaces form 0 count space → ⊥

-- these lines do not fit
pub record LacksSpaceToLay (lines : List ℕ) (width components stride layout space : ℕ) : Type 0 where
  pub count : ℕ
  pub all : length lines ≡ count * (components * width)
  pub less : LacksPlaces width components stride layout count space

-- there are no pixels of that number of components, these bytes are not whole lines, or they have no layout
abbrev pub LacksLinesToLay : (lines : List ℕ) (width components stride layout : ℕ) → Type 0
LacksLinesToLay lines width components stride layout =
    ((components ≢ 1) × (components ≢ 3)) ⊎ ((count : ℕ) → 0 < width → length lines ≢ count * (components * width)) ⊎ LacksLayout width components stride layout

-- the lines of the scan's image are laid out, from the top of the canvas, and all its intervals are marked; if marks were
-- asked for, the bytes are these; and these are their counts
pub record LaysScan (scan : ScanValue) (form : CanvasLines) (old new old_bytes bytes : List ℕ) (c : Counts) : Type 0 where
  pub marks : List Mark
  pub f : ℕ → ℕ → ℕ → ℕ
  pub shows : ShowsFirst scan (length scan.intervals) marks f
  pub lie : LieOn form 0 scan.head.height (λ y. laid_line form (line_of scan.head f y)) old new
  pub store : 0 < length old_bytes → bytes ≡ map mark_byte marks
  pub counted : AreCounts marks c.sound c.damaged c.blank

-- the lines of the file's image are laid out, from the top of the canvas; marks that were asked for are its own; and so is
-- the report
pub record DecodesCanvas (file : List ℕ) (stride layout : ℕ) (old new old_marks marks : List ℕ) (r : DecodeReport) : Type 0 where
  pub scan : ScanValue
  pub each : List Mark
  pub f : ℕ → ℕ → ℕ → ℕ
  pub is : IsPictureOf file None scan each f
  pub form : CanvasLines
  pub form_is : HasForm scan.head.width (components_of scan.head) stride layout form
  pub lie : LieOn form 0 scan.head.height (λ y. laid_line form (line_of scan.head f y)) old new
  pub marked : 0 < length old_marks → marks ≡ over (map mark_byte each) old_marks
  pub reported : ReportsReport scan each r

-- the lines of the file's image do not fit on the canvas, or its marks, which were asked for, do not
pub record LacksCanvas (file : List ℕ) (stride layout space marks : ℕ) : Type 0 where
  pub head : HeadValue
  pub is : HeadOf file head
  pub less : LacksPlaces head.width (components_of head) stride layout head.height space ⊎ ((0 < marks) × (marks < intervals_of head))

-- the lines of the file's image have no such layout at that stride
pub record LacksLayoutOf (file : List ℕ) (stride layout : ℕ) : Type 0 where
  pub head : HeadValue
  pub is : HeadOf file head
  pub less : LacksLayout head.width (components_of head) stride layout
