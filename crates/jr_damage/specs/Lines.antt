-- The lines of an image that the MCUs of an interval cover (T.81, A.2.3 and A.2.4).
use Rattle.std.specs.Prelude.{◌≡◌, ℕ, ◌+◌, ◌*◌, ◌/◌, ◌<◌, ◌≤◌}
use Rattle.std.specs.Int.{div_ceil}
use Rattle.jr_head.specs.HeadValue.{HeadValue}
use Rattle.jr_head.specs.Geometry.{vertical_max, mcus_across}
pub use Rattle.jr_head.specs.Intervals.{first_mcu_of, mcus_in}
use Rattle.jr_damage.specs.declared.lines.Lines.{Lines}

-- an MCU covers a line of the image: it is in the row of MCUs, each 8 Vmax lines high, that the line is in
pub record Covers (h : HeadValue) (mcu line : ℕ) : Type 0 where
  pub row : mcu / mcus_across h ≡ line / (8 * vertical_max h)
  pub within : line < h.height

-- an MCU of interval i covers the line
pub record Touches (h : HeadValue) (i line : ℕ) : Type 0 where
  pub mcu : ℕ
  pub from : first_mcu_of h i ≤ mcu
  pub before : mcu < first_mcu_of h i + mcus_in h i
  pub covers : Covers h mcu line

-- from one line to another
abbrev pub HasLine : Lines → ℕ → Type 0
HasLine l line = (l.first ≤ line) × (line ≤ l.last)

-- interval i touches these lines of the image, and no other
pub record AreLinesOf (h : HeadValue) (i : ℕ) (l : Lines) : Type 0 where
  pub within : (line : ℕ) → Touches h i line → HasLine l line
  pub touched : (line : ℕ) → HasLine l line → Touches h i line
  pub some : l.first ≤ l.last

-- consecutive MCUs are in rows of the given number of MCUs, each of the given height in lines, which cover an image
pub record AreRows (across high height first count : ℕ) : Type 0 where
  pub across_some : 0 < across
  pub high_some : 0 < high
  pub count_some : 0 < count
  pub within : first + count ≤ across * div_ceil height high
