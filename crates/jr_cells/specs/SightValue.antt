-- What contracts see of a sight: of which cells it is, and the piece that it knows in each.
use Rattle.std.specs.Prelude.{ℕ, List, Option}
use Rattle.jr_piece.specs.PieceValue.{PieceValue}

pub record SightValue : Type 0 where
  pub cells : List ℕ
  pub pieces : List (Option PieceValue)
