use Rattle.jr_idct.proofs.Cosines.{places_agree}
use Rattle.jr_idct.proofs.laws.places_agree.Goals as goal

pub returns : goal.returns
returns c = places_agree
