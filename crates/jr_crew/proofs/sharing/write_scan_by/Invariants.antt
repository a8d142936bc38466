use Rattle.std.proofs.Common.{Some}
use Rattle.jr_crew.proofs.sharing.write_scan_by.Given as goal

abbrev pub ghosts-write_as : goal.ghosts-write_as
ghosts-write_as g a = record { part = Some a.part }
