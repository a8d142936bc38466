-- The lines of a row of MCUs of an image, as they are stored.
use Rattle.std.specs.Prelude.{◌≡◌, ℕ, ◌*◌, ◌/◌, ◌<◌, List, length, slice_index_or}
use Rattle.jr_head.specs.HeadValue.{HeadValue}
use Rattle.jr_head.specs.Geometry.{blocks_of, horizontal_of}
use Rattle.jr_mcu.specs.Mcus.{component}
use Rattle.jr_rows.specs.declared.row_lines.UnitStart.{UnitStart}
use Rattle.jr_rows.specs.Groups.{all_lines, group_of, groups_across}
use Rattle.jr_rows.specs.RowLinesValue.{RowLinesValue}
use Rattle.jr_rows.specs.declared.shape.TheConstants.{BLOCKS_AT_ONCE}

-- the number of MCUs that are read before they are transformed
abbrev pub mcus_at_once : HeadValue → ℕ
mcus_at_once h = BLOCKS_AT_ONCE / blocks_of h

-- the lines of a row fit
pub record HasGroups (h : HeadValue) (across : ℕ) (groups : List (List ℕ)) : Type 0 where
  pub across_is : across ≡ groups_across h
  pub long : length groups ≡ all_lines h * groups_across h

-- the position of data unit j of an MCU
pub record IsStartOf (h : HeadValue) (j : ℕ) (p : UnitStart) : Type 0 where
  pub first_is : p.first ≡ group_of h 0 j 0
  pub step_is : p.step ≡ horizontal_of h (component h j)

-- and so do all of them
pub record AreStarts (h : HeadValue) (starts : List UnitStart) : Type 0 where
  pub long : length starts ≡ blocks_of h
  pub each : (j : ℕ) (d : UnitStart) → j < blocks_of h → IsStartOf h j (slice_index_or starts j d)

-- these are the lines of a row of MCUs of an image with this header
pub record HasLines (h : HeadValue) (v : RowLinesValue) : Type 0 where
  pub space : HasGroups h (groups_across h) v.groups
  pub across : v.across ≡ groups_across h
  pub starts : AreStarts h v.starts
