use Rattle.std.proofs.Common.{rules}
use Rattle.jr_code.proofs.book.CodeBook.new.Goals as goal

pub returns-then-total-gt256-clause-too_many : goal.returns-then-total-gt256-clause-too_many
returns-then-total-gt256-clause-too_many c = search rules

pub returns-then-total-gt256-clause-overfull : goal.returns-then-total-gt256-clause-overfull
returns-then-total-gt256-clause-overfull c = search rules
