use Rattle.jr_mend.proofs.FilesInStep as laws
use Rattle.jr_mend.proofs.laws.file_in_step_stays.Goals as goal

pub returns : goal.returns
returns c = laws.file_in_step_stays
