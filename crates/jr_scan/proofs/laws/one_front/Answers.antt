use Rattle.jr_code.proofs.CodeLemmas.{one_word}
use Rattle.jr_scan.proofs.Fronts as laws
use Rattle.jr_scan.proofs.laws.one_front.Goals as goal

pub returns : goal.returns
returns c = laws.one_front one_word
