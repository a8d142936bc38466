use Rattle.std.proofs.Common.{rules}
use Rattle.jr_damage.proofs.lines.lines_of_rows.Goals as goal

pub returns-clause-last : goal.returns-clause-last
returns-clause-last c = search rules
