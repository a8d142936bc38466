use Rattle.std.proofs.Common.{rules}
use Rattle.jr_code.proofs.bits.Bits.take.Goals as goal

pub returns-clause-taken : goal.returns-clause-taken
returns-clause-taken c = search rules
