use Rattle.jr_idct.proofs.Near.{samples_are_faithful}
use Rattle.jr_idct.proofs.laws.samples_are_faithful.Goals as goal

pub returns : goal.returns
returns c = samples_are_faithful c.values_are_near.ensures
