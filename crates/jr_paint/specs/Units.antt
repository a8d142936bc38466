-- Samples of an image that is stored by data units (T.81, A.2.3).
use Rattle.std.specs.Prelude.{ℕ, slice_index}
use Rattle.jr_head.specs.HeadValue.{HeadValue}
use Rattle.jr_paint.specs.Geometry.{spot_of, place_in}
use Rattle.jr_paint.specs.declared.unit_lines.Unit.{Unit}
use Rattle.jr_paint.specs.declared.unit_lines.Unit.TheVariants.{Even, Of}

-- the sample at a position in a data unit, from what is shown of it
abbrev pub sample_in_unit : Unit → ℕ → ℕ
sample_in_unit (Even value) at = value
sample_in_unit (Of samples) at = slice_index samples.now at

-- the sample in column x and line y of component c; `units` maps component, MCU, data unit and index in that to samples
abbrev pub sample_by_units : HeadValue → (ℕ → ℕ → ℕ → ℕ → ℕ) → (c x y : ℕ) → ℕ
sample_by_units h units c x y = let s = spot_of h c x y in units c s.mcu s.block (place_in s)
