use Rattle.std.proofs.Common.{rules}
use Rattle.jri_file.proofs.scanning.scan_of_file.Goals as goal

pub returns-clause-scan : goal.returns-clause-scan
returns-clause-scan c = search rules

pub returns-in_err-head-clause-refused : goal.returns-in_err-head-clause-refused
returns-in_err-head-clause-refused c = search rules
