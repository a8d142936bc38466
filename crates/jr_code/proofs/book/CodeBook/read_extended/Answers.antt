use Rattle.jr_code.proofs.book.CodeBook.read_extended.Goals as goal

pub returns-clause-none : goal.returns-clause-none
returns-clause-none c = rw (← c.self.view_is) c.read_extended.ensures.none
