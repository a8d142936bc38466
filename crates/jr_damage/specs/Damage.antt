-- Which intervals of a scan have a decoding, and how far the others can be decoded.
use Rattle.std.specs.Prelude.{◌≡◌, ℕ, ◌<◌, Bool, true, false, List, length, count_by, slice_index_or}
use Rattle.jr_scan.specs.IntervalValue.{IntervalValue}
use Rattle.jr_scan.specs.ScanValue.{ScanValue, interval_of}
use Rattle.jr_scan.specs.Mcus.{HasDecoding, HasNoDecoding}

-- the interval is damaged, or it is not
abbrev pub ReportsDamage : IntervalValue → Bool → Type 0
ReportsDamage i true = HasNoDecoding i
ReportsDamage i false = HasDecoding i

-- the number of damaged intervals among the first n of a scan; marks has for each whether it is damaged
pub record CountsDamaged (s : ScanValue) (n count : ℕ) : Type 0 where
  pub marks : List Bool
  pub long : length marks ≡ n
  pub each : (i : ℕ) → i < n → ReportsDamage (interval_of s i) (slice_index_or marks i false)
  pub counted : count ≡ count_by (λ (damaged : Bool). damaged) marks
