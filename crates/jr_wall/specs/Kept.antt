-- What the fields of a board keep.
use Rattle.std.specs.Prelude.{◌≡◌, ℕ, ◌<◌, ◌^◌, length, count_by, Option, Some, None}
use Rattle.std.specs.declared.sync.Arc.{Arc}
use Rattle.std.specs.Arc.{arc_value}
use Rattle.std.specs.declared.alloc.Global.{Global}
use Rattle.jr_piece.specs.PieceValue.{PieceValue}
use Rattle.jr_picture.specs.DecodedScan.{DecodedScan, IsDecodedScan, is_sound_piece, is_damaged_piece}

-- the piece that an Arc holds
abbrev pub shared_piece : Option (Arc PieceValue Global) → Option PieceValue
shared_piece None = None
shared_piece (Some p) = Some (arc_value p)

-- what the fields of a board keep
pub record KeepsCounts (b : DecodedScan) (sound damaged : ℕ) : Type 0 where
  pub valid : IsDecodedScan b
  pub few : length b.pieces < 2 ^ 32
  pub sound_is : sound ≡ count_by is_sound_piece b.pieces
  pub damaged_is : damaged ≡ count_by is_damaged_piece b.pieces
