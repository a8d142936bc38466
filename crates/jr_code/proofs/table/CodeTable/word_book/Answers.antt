use Rattle.std.proofs.Common.{rules}
use Rattle.jr_code.proofs.table.CodeTable.word_book.Goals as goal

pub returns : goal.returns
returns c = search rules
