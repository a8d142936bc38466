-- What contracts see of the cells for an interval's strips, and of a sight of them.
use Rattle.std.specs.Prelude.{ℕ, List, Option}
use Rattle.jr_piece.specs.StripValue.{StripValue}

-- the interval's number, the number of MCUs of each strip but the last, and the cells' names
pub record StripCellsValue : Type 0 where
  pub number : ℕ
  pub each : ℕ
  pub cells : List ℕ

-- of which cells a sight is, and the strip that it knows in each
pub record StripSightValue : Type 0 where
  pub cells : StripCellsValue
  pub strips : List (Option StripValue)
