use Rattle.jr_code.proofs.CodeLemmas.{one_word}
use Rattle.jr_scan.proofs.LongestFronts as laws
use Rattle.jr_scan.proofs.laws.each_interval_decodes_or_not.Goals as goal

pub returns : goal.returns
returns c = laws.decoding_or_none one_word
