use Rattle.std.proofs.Common.{rules}
use Rattle.jr_base.proofs.tally.TallyRead.read.Goals as goal

pub returns-clause-failed : goal.returns-clause-failed
returns-clause-failed g c = search rules
