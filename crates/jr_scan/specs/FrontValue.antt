-- The blocks of some whole MCUs, and whether they are the interval's decoding.
use Rattle.std.specs.Prelude.{ℕ, Bool, List, ℤ}

pub record FrontValue : Type 0 where
  pub mcus : ℕ
  pub blocks : List (List ℤ)
  pub is_sound : Bool
