use Rattle.jr_idct.proofs.FloorLaws.{floors_agree}
use Rattle.jr_idct.proofs.laws.floors.Goals as goal

pub returns : goal.returns
returns c = floors_agree
