use Rattle.std.proofs.Common.{◌≡◌, ◌-◌, length}
use Rattle.jr_tests.proofs.desk.claim_all.Given as goal

abbrev pub decreases-loop-number : goal.decreases-loop-number
decreases-loop-number l = l.desk.limit - length l.seat.drawn

abbrev pub invariant-loop-number : goal.invariant-loop-number
invariant-loop-number l = l.seat.desk ≡ l.desk
