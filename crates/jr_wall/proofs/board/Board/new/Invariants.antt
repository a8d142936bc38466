use Rattle.std.proofs.Common.{◌≡◌, replicate, None}
use Rattle.jr_wall.proofs.board.Board.new.Given as goal

abbrev pub invariant-loop : goal.invariant-loop
invariant-loop l = l.pieces.items ≡ replicate l.counter None
