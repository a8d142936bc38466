-- What contracts see of a strip of an interval, coded, skipped or decoded, and of a reader of strips.
use Rattle.std.specs.Prelude.{ℕ, List, ℤ}
use Rattle.jr_scan.specs.declared.place.Place.{Place}
use Rattle.jr_scan.specs.IntervalValue.{IntervalValue}

-- MCUs of an interval starting at MCU `first`, and the blocks of their data units
pub record CodedStripValue : Type 0 where
  pub interval : IntervalValue
  pub first : ℕ
  pub mcus : ℕ
  pub blocks : List (List ℤ)

-- MCUs of an interval starting at MCU `first`, which begins at that position
pub record PlacedStripValue : Type 0 where
  pub interval : IntervalValue
  pub first : ℕ
  pub mcus : ℕ
  pub from : Place

-- MCUs of an interval starting at MCU `first`, and the samples of their data units
pub record StripValue : Type 0 where
  pub interval : IntervalValue
  pub first : ℕ
  pub mcus : ℕ
  pub samples : List (List ℕ)
