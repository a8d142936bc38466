use Rattle.jr_work.specs.Speculating.{AreSpeculations}
use Rattle.jr_work.proofs.speculation_queue.SpeculationQueue.for_next.Given as goal

abbrev pub invariant-loop-slot : goal.invariant-loop-slot
invariant-loop-slot g l = AreSpeculations g.S.OneScan.part l.number l.speculations
