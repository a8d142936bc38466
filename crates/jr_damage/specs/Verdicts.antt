-- What a check reports of the first intervals of a scan.
use Rattle.std.specs.Prelude.{ℕ, ◌<◌, ◌≤◌, List, Option, Some, None}
use Rattle.jr_head.specs.Heads.{HeadOf}
use Rattle.jr_scan.specs.Mcus.{HasNoDecoding}
use Rattle.jr_scan.specs.ScanValue.{ScanValue, interval_of, IsScanOf}
use Rattle.jr_damage.specs.declared.lines.Lines.{Lines}
use Rattle.jr_damage.specs.declared.verdict.Verdict.{Verdict}
use Rattle.jr_damage.specs.Damage.{CountsDamaged}
use Rattle.jr_damage.specs.Lines.{Touches, HasLine}

-- a damaged one of the first n intervals touches the line
pub record DamageTouches (s : ScanValue) (n line : ℕ) : Type 0 where
  pub interval : ℕ
  pub below : interval < n
  pub damaged : HasNoDecoding (interval_of s interval)
  pub touches : Touches s.head interval line

-- the first and the last line that they touch
pub record IsHull (s : ScanValue) (n : ℕ) (l : Lines) : Type 0 where
  pub first : DamageTouches s n l.first
  pub last : DamageTouches s n l.last
  pub each : (line : ℕ) → DamageTouches s n line → HasLine l line

-- the same if they may touch none
abbrev pub IsTouched : ScanValue → ℕ → Option Lines → Type 0
IsTouched s n None = (line : ℕ) → DamageTouches s n line → ⊥
IsTouched s n (Some l) = IsHull s n l

-- the number of damaged intervals among the first n, and the lines that these touch
pub record IsVerdictOf (s : ScanValue) (n : ℕ) (v : Verdict) : Type 0 where
  pub damaged : CountsDamaged s n v.damaged
  pub lines : IsTouched s n v.lines
  pub few : v.damaged ≤ n

-- the header is the file's, and the intervals are those that its scan is cut into
pub record IsFileScan (file : List ℕ) (s : ScanValue) : Type 0 where
  pub head : HeadOf file s.head
  pub cut : IsScanOf file s
