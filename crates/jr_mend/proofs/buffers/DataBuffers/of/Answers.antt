use Rattle.std.proofs.Common.{rules, arith}
use Rattle.jr_mend.proofs.buffers.DataBuffers.of.Goals as goal

pub returns-clause-chosen : goal.returns-clause-chosen
returns-clause-chosen c = λ k d lt. search (rules, arith, c.longest_of-capacity.ensures.longest k d lt)

pub returns-clause-next : goal.returns-clause-next
returns-clause-next c = λ k d lt. search (rules, arith, c.longest_of-capacity.ensures.longest k d lt)
