use Rattle.std.proofs.Common.{subst}
use Rattle.jr_scan.specs.Run.{IsRun, run_from}
use Rattle.jr_scan.proofs.Runs as laws
use Rattle.jr_scan.proofs.laws.runs_meet.Goals as goal

pub returns : goal.returns
returns c = λ i p k m a b valid all. laws.runs_meet i p a.to b.to k m a.blocks b.blocks b.end (laws.component_low i.head valid) (subst (IsRun (run_from i p k) a.blocks a.to) all a.is) b.is
