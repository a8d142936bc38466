use Rattle.jri_memory.proofs.Headers.{refusal_stays}
use Rattle.jri_memory.proofs.damages.list_damages.Goals as goal

pub returns-in-Err-clause-refused_for_good : goal.returns-in-Err-clause-refused_for_good
returns-in-Err-clause-refused_for_good c answer partial whole can =
    let so_far = c.in-Err.ensures.refused (c.status_of.ensures.of_the_file answer) in
    refusal_stays c.args.file.now whole c.in-Err.refusal _ _ can (so_far.stays partial) so_far.is c.refused.ensures.number c.refused.ensures.detail
