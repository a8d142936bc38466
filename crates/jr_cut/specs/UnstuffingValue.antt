-- Bytes of a scan that are being unstuffed: the data that is found, and what is not read yet.
use Rattle.std.specs.Prelude.{ℕ, List}

pub record UnstuffingValue : Type 0 where
  pub unstuffed : List ℕ
  pub rest : List ℕ
