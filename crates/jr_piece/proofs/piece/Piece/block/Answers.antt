use Rattle.std.proofs.Common.{rules}
use Rattle.jr_piece.proofs.piece.Piece.block.Goals as goal

pub returns : goal.returns
returns c = search rules
