use Rattle.jr_idct.proofs.Cosines.{roots_agree}
use Rattle.jr_idct.proofs.laws.roots_agree.Goals as goal

pub returns : goal.returns
returns c = roots_agree
