use Rattle.jr_mend.proofs.Splices.{coded_cut}
use Rattle.jr_mend.proofs.laws.intervals_are_cut.Goals as goal

pub returns : goal.returns
returns c = coded_cut
