use Rattle.jr_idct.proofs.Zeros.{grey}
use Rattle.jr_idct.proofs.laws.zeros_are_grey.Goals as goal

pub returns : goal.returns
returns c = grey
