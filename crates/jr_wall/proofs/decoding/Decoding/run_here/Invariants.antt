use Rattle.std.specs.Prelude.{Some}
use Rattle.jr_wall.specs.DecodingValue.{whole}
use Rattle.jr_wall.proofs.decoding.Decoding.run_here.Given as goal

abbrev pub ghosts-run_as : goal.ghosts-run_as
ghosts-run_as g a = record { part = Some (whole a.decoding.now.scan) }
