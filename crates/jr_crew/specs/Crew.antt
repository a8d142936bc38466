-- What several threads know of the rows of MCUs that they decode together: by the part of a scan that is decoded.
use Rattle.std.specs.Prelude.{◌≡◌, ℕ, ◌%◌, ◌<◌, List, length, slice_get, Option, Some, None}
use Rattle.jr_head.specs.Geometry.{mcus_down}
use Rattle.jr_scan.specs.FirstIntervalsValue.{FirstIntervalsValue}
use Rattle.jr_work.specs.Speculating.{OfPart}
use Rattle.jr_crew.specs.RowValues.{PaintedValue}
use Rattle.jr_rows.specs.Cursors.{AreSpeculationsIn}
use Rattle.jr_rows.specs.Rows.{AreRowsOf}
use Rattle.jr_rows.specs.declared.interval_speculations.IntervalSpeculations.{IntervalSpeculations}
use Rattle.jr_rows.specs.declared.rows.Rows.{Rows}

-- these are rows of the part, and speculative reads of its scan, and there is a next row
pub record HasNextOf (part : FirstIntervalsValue) (r : Rows) (g : IntervalSpeculations) : Type 0 where
  pub rows : AreRowsOf part r
  pub row : r.row < mcus_down part.scan.head
  pub speculations : AreSpeculationsIn part.scan g

abbrev pub HaveNext : Option FirstIntervalsValue → Rows → IntervalSpeculations → Type 0
HaveNext known r g = OfPart known (λ part. HasNextOf part r g)

-- a slot holds this row
abbrev pub HoldsRow : Option (Option PaintedValue) → ℕ → Type 0
HoldsRow None row = ⊥
HoldsRow (Some None) row = ⊥
HoldsRow (Some (Some p)) row = p.row ≡ row

-- the slot of a row holds it: each row's slot is its number modulo the number of slots
abbrev pub HasRow : List (Option PaintedValue) → ℕ → Type 0
HasRow slots row = HoldsRow (slice_get slots (row % length slots)) row
