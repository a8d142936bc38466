use Rattle.std.specs.Prelude.{Some}
use Rattle.jr_wall.specs.DecodingValue.{whole}
use Rattle.jr_wall.proofs.decoding.Decoding.work.Given as goal

abbrev pub ghosts-work_as : goal.ghosts-work_as
ghosts-work_as g a = record { part = Some (whole a.decoding.now.scan) }
