use Rattle.jr_idct.proofs.Near.{samples_are_rounded}
use Rattle.jr_idct.proofs.laws.samples_are_rounded.Goals as goal

pub returns : goal.returns
returns c = samples_are_rounded c.values_are_near.ensures
