use Rattle.std.proofs.Common.{rules}
use Rattle.jr_paint.proofs.netpbm.write_text.Goals as goal

pub write_lines-requires : goal.write_lines-requires
write_lines-requires g c = search rules

pub returns : goal.returns
returns g c = search rules
