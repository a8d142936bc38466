use Rattle.std.proofs.Common.{rules}
use Rattle.jr_wall.proofs.board.Board.look.Goals as goal

pub returns-clause-glimpse : goal.returns-clause-glimpse
returns-clause-glimpse c = search rules
