use Rattle.std.proofs.Common.{rules}
use Rattle.jr_paint.proofs.netpbm.make_space.Goals as goal

pub returns-in_err-write_all-clause-err : goal.returns-in_err-write_all-clause-err
returns-in_err-write_all-clause-err g c = search rules

pub returns-clause-ok : goal.returns-clause-ok
returns-clause-ok g c = search rules
