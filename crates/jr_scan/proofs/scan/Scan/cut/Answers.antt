use Rattle.std.proofs.Common.{rules}
use Rattle.jr_scan.proofs.scan.Scan.cut.Goals as goal

pub returns-clause-cut : goal.returns-clause-cut
returns-clause-cut c = search rules
