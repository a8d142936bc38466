-- What is known of memory for a row of MCUs: by the part of a scan that is decoded.
use Rattle.std.specs.Prelude.{◌≡◌, ℕ, ◌*◌, ◌<◌, ◌≤◌, List, length, take, Option, ℤ}
use Rattle.jr_head.specs.Geometry.{blocks_of, mcus_across, mcus_down, vertical_max}
use Rattle.jr_scan.specs.FirstIntervalsValue.{FirstIntervalsValue}
use Rattle.jr_paint.specs.Lines.{line_size}
use Rattle.jr_work.specs.Speculating.{OfPart}
use Rattle.jr_crew.specs.RowValues.{CodedRowValue, PaintedValue}
use Rattle.jr_rows.specs.Rows.{AreRead, CountsRow, HasSampleSpace, ShowsLines, line_count}
use Rattle.jr_rows.specs.RowsValue.{SampleRowValue}

-- the lines of a row of MCUs fit
abbrev pub HasPixelSpace : Option FirstIntervalsValue → List ℕ → Type 0
HasPixelSpace known pixels = OfPart known (λ part. 8 * vertical_max part.scan.head * line_size part.scan.head ≤ length pixels)

-- its samples, some of its blocks and the scratch space for painting its lines fit
abbrev pub HasSamples : Option FirstIntervalsValue → SampleRowValue → Type 0
HasSamples known work = OfPart known (λ part. HasSampleSpace part.scan.head work)

-- its blocks fit
abbrev pub HasBlockSpace : Option FirstIntervalsValue → List (List ℤ) → Type 0
HasBlockSpace known blocks = OfPart known (λ part. length blocks ≡ mcus_across part.scan.head * blocks_of part.scan.head)

-- the blocks of a row of MCUs of the scan, and the marks of the intervals that end in it
pub record ReadsRow (part : FirstIntervalsValue) (c : CodedRowValue) : Type 0 where
  pub row : c.row < mcus_down part.scan.head
  pub blocks : AreRead part.scan part.limit c.row c.blocks
  pub counts : CountsRow part.scan part.limit c.row c.marked

abbrev pub IsRead : Option FirstIntervalsValue → CodedRowValue → Type 0
IsRead known c = OfPart known (λ part. ReadsRow part c)

-- the lines of a row of MCUs of the scan, and the marks of the intervals that end in it
pub record PaintsRow (part : FirstIntervalsValue) (p : PaintedValue) : Type 0 where
  pub row : p.row < mcus_down part.scan.head
  pub lines : ShowsLines part.scan part.limit p.row (take (line_count part.scan.head p.row * line_size part.scan.head) p.pixels)
  pub counts : CountsRow part.scan part.limit p.row p.marked

abbrev pub IsPainted : Option FirstIntervalsValue → PaintedValue → Type 0
IsPainted known p = OfPart known (λ part. PaintsRow part p)
