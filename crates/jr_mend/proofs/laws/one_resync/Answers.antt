use Rattle.jr_mend.proofs.ResyncLaw as laws
use Rattle.jr_mend.proofs.laws.one_resync.Goals as goal

pub returns : goal.returns
returns c = laws.one_resync
