use Rattle.std.proofs.Common.{rules}
use Rattle.jr_paint.proofs.colours.rounded.Goals as goal

pub returns-clause-value : goal.returns-clause-value
returns-clause-value c = search rules
