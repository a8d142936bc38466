use Rattle.jr_code.proofs.CodeLemmas as code
use Rattle.jr_code.proofs.laws.same_table_reads.Goals as goal

pub returns : goal.returns
returns c = code.tables_decide
