use Rattle.jr_idct.proofs.Near.{samples_are_near}
use Rattle.jr_idct.proofs.laws.samples_are_near.Goals as goal

pub returns : goal.returns
returns c = samples_are_near c.values_are_near.ensures
