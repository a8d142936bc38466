-- What contracts see of the part of a scan that is decoded.
use Rattle.std.specs.Prelude.{ℕ, min, Option, Some, None}
use Rattle.jr_scan.specs.ScanValue.{ScanValue}

-- a scan, and the number of its first intervals that are decoded
pub record FirstIntervalsValue : Type 0 where
  pub scan : ScanValue
  pub limit : ℕ

-- the number of intervals to decode: the first ones, or all
abbrev pub least : Option ℕ → ℕ → ℕ
least None n = n
least (Some k) n = min k n
