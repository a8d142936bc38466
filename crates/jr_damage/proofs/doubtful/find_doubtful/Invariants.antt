use Rattle.std.proofs.Common.{◌≡◌, length}
use Rattle.jr_damage.proofs.Doubts.{HasSought}
use Rattle.jr_damage.proofs.doubtful.find_doubtful.Given as goal

abbrev pub invariant-loop-number : goal.invariant-loop-number
invariant-loop-number l = (length l.units ≡ 10) × HasSought l.fn.interval l.reader l.number
