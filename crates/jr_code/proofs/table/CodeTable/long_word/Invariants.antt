use Rattle.jr_code.proofs.ReadLemmas.{Longer}
use Rattle.jr_code.proofs.table.CodeTable.long_word.Given as goal

abbrev pub invariant-loop-k : goal.invariant-loop-k
invariant-loop-k l = Longer l.self l.window l.k
