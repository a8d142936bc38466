use Rattle.jr_mend.proofs.ResyncedInStep.{in_step_is_resynced}
use Rattle.jr_mend.proofs.laws.file_in_step_is_resynced.Goals as goal

pub returns : goal.returns
returns c = λ file s head is in_step. in_step_is_resynced file s head is in_step
