use Rattle.std.proofs.Common.{Some}
use Rattle.jr_damage.proofs.by_threads.check_scan_by.Given as goal

abbrev pub ghosts-check_as : goal.ghosts-check_as
ghosts-check_as g a = record { part = Some a.part }
