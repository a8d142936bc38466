use Rattle.jr_code.proofs.CodeLemmas.{one_word}
use Rattle.jr_code.proofs.book.CodeBook.read.Goals as goal

pub returns-clause-none : goal.returns-clause-none
returns-clause-none c = rw (← c.self.view_is) c.read.ensures.none

pub returns-clause-one_word : goal.returns-clause-one_word
returns-clause-one_word c = one_word c.args.self.now
