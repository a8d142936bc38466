use Rattle.jr_code.proofs.CodeLemmas.{one_word}
use Rattle.jr_scan.proofs.LongestFronts as laws
use Rattle.jr_scan.proofs.laws.each_interval_has_a_longest_front.Goals as goal

pub returns : goal.returns
returns c = laws.longest_front one_word
