use Rattle.std.proofs.Common.{rules}
use Rattle.jri_archive.proofs.checking.check_file.Goals as goal

pub returns-in-Ok-clause-scan : goal.returns-in-Ok-clause-scan
returns-in-Ok-clause-scan c = search rules
