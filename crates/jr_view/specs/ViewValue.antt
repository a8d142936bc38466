-- What contracts see of a view: the scan, the data units of all its MCUs in their order, and which MCUs were seen.
use Rattle.std.specs.Prelude.{ℕ, Bool, List}
use Rattle.jr_scan.specs.ScanValue.{ScanValue}

pub record ViewValue : Type 0 where
  pub scan : ScanValue
  pub units : List (List ℕ)
  pub seen : List Bool
