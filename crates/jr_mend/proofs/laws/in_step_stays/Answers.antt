use Rattle.jr_mend.proofs.InStep as laws
use Rattle.jr_mend.proofs.laws.in_step_stays.Goals as goal

pub returns : goal.returns
returns c = λ n at bytes datas end r cut in_step over is. laws.in_step_stays n at bytes datas end cut in_step (laws.over_by n at bytes datas end cut over) r is
