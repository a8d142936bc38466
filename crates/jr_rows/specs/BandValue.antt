-- What contracts see of a band: the header of a file, and the lines of one row of its MCUs.
use Rattle.std.specs.Prelude.{ℕ, List}
use Rattle.jr_head.specs.HeadValue.{HeadValue}

pub record BandValue : Type 0 where
  pub head : HeadValue
  pub groups : List (List ℕ)
