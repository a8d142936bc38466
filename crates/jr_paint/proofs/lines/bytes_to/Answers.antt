use Rattle.std.proofs.Common.{rules}
use Rattle.std.proofs.Math.Nat.{mul-le-mul_right}
use Rattle.jr_paint.proofs.lines.bytes_to.Goals as goal

pub returns-clause-within : goal.returns-clause-within
returns-clause-within c = search (rules, mul-le-mul_right c.args.line c.requires.within)
