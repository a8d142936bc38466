-- What contracts see of a piece: its interval, whether it has a decoding, the number of MCUs shown, and the samples of
-- each of their data units.
use Rattle.std.specs.Prelude.{ℕ, Bool, List}
use Rattle.jr_scan.specs.IntervalValue.{IntervalValue}

pub record PieceValue : Type 0 where
  pub interval : IntervalValue
  pub is_sound : Bool
  pub front : ℕ
  pub samples : List (List ℕ)
