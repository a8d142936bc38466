-- What an interval is: its number, the number of MCUs that it codes, its bytes without stuffing, and the header by which it is read.
use Rattle.std.specs.Prelude.{ℕ, ◌<◌, ◌^◌, List, length}
use Rattle.jr_head.specs.Geometry.{IsValid}
use Rattle.jr_head.specs.HeadValue.{HeadValue}

pub record IntervalValue : Type 0 where
  pub number : ℕ
  pub mcus : ℕ
  pub bytes : List ℕ
  pub head : HeadValue

-- the invariant of a borrowed interval: its header is valid, and the number of its bits fits
pub record IsIntervalRef (i : IntervalValue) : Type 0 where
  pub valid : IsValid i.head
  pub few : length i.bytes < 2 ^ 61
