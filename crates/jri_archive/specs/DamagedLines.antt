-- The lines of an image that have no decoding (T.81, A.2.3, A.2.4 and E.1.4).
use Rattle.std.specs.Prelude.{◌≡◌, ℕ, ◌+◌, ◌-◌, ◌*◌, ◌/◌, ◌<◌, min, length, Option, Some, None}
use Rattle.jr_head.specs.HeadValue.{HeadValue}
use Rattle.jr_head.specs.Geometry.{vertical_max, mcus_across}
use Rattle.jr_scan.specs.Mcus.{HasNoDecoding, HasLongestFront}
use Rattle.jr_scan.specs.ScanValue.{ScanValue, interval_of, mcus_in}
use Rattle.jr_damage.specs.Lines.{first_mcu_of}
use Rattle.jr_damage.specs.declared.lines.Lines.{Lines}

-- the first line of an MCU's row of MCUs, each 8 Vmax lines high
abbrev pub top_of : HeadValue → (mcu : ℕ) → ℕ
top_of h mcu = mcu / mcus_across h * (8 * vertical_max h)

-- the MCU after the longest prefix of interval i; its last one if the prefix has all
abbrev pub undecoded_mcu : HeadValue → (i longest : ℕ) → ℕ
undecoded_mcu h i longest = first_mcu_of h i + min longest (mcus_in h i - 1)

-- the line is the first of the MCU after the longest prefix of the first damaged interval
pub record IsDamagedFrom (s : ScanValue) (line : ℕ) : Type 0 where
  pub interval : ℕ
  pub below : interval < length s.intervals
  pub damaged : HasNoDecoding (interval_of s interval)
  pub first : (i : ℕ) → i < interval → HasNoDecoding (interval_of s i) → ⊥
  pub longest : ℕ
  pub front : HasLongestFront (interval_of s interval) longest
  pub top : line ≡ top_of s.head (undecoded_mcu s.head interval longest)

-- no lines if damage touches none; otherwise from that line to the last one that it touches
abbrev pub AreUndecoded : ScanValue → (touched lines : Option Lines) → Type 0
AreUndecoded s None lines = lines ≡ None
AreUndecoded s (Some touched) lines = (l : Lines) × (lines ≡ Some l) × IsDamagedFrom s l.first × (l.last ≡ touched.last)
