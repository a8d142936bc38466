use Rattle.jr_code.proofs.CodeLemmas.{one_word}
use Rattle.jr_scan.proofs.Fronts as laws
use Rattle.jr_scan.proofs.laws.one_decoding.Goals as goal

pub returns : goal.returns
returns c = laws.one_decoding one_word
