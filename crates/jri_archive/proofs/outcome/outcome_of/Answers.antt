use Rattle.std.proofs.Common.{rules}
use Rattle.jri_archive.proofs.outcome.outcome_of.Goals as goal

pub returns-in-Err : goal.returns-in-Err
returns-in-Err c = search rules
