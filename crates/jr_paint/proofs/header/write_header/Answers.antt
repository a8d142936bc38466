use Rattle.std.proofs.Common.{rules}
use Rattle.jr_paint.proofs.header.write_header.Goals as goal

pub returns-clause-front : goal.returns-clause-front
returns-clause-front c = search rules
