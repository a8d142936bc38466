use Rattle.std.proofs.Common.{rules}
use Rattle.jr_piece.proofs.piece.Piece.is_for.Goals as goal

pub returns : goal.returns
returns c = search rules
