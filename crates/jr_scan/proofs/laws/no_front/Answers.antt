use Rattle.jr_scan.proofs.Fronts as laws
use Rattle.jr_scan.proofs.laws.no_front.Goals as goal

pub returns : goal.returns
returns c = laws.front_none
