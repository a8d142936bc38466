use Rattle.jr_cut.proofs.CutLaw as laws
use Rattle.jr_cut.proofs.laws.one_cut.Goals as goal

pub returns : goal.returns
returns c = λ n at bytes a b. laws.one_cut n at bytes a.datas b.datas a.end b.end a.is b.is
