use Rattle.jr_code.proofs.CodeLemmas.{one_word}
use Rattle.jr_scan.proofs.Runs as laws
use Rattle.jr_scan.proofs.laws.one_run.Goals as goal

pub returns : goal.returns
returns c = λ r a b valid. laws.one_run one_word r a.blocks b.blocks a.to b.to a.end b.end (laws.component_low r.interval.head valid) a.is b.is
