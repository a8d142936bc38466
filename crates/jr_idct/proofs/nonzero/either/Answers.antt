use Rattle.jr_idct.proofs.ZeroLanes.{both_zero}
use Rattle.jr_idct.proofs.nonzero.either.Goals as goal

pub returns-clause-first : goal.returns-clause-first
returns-clause-first c j l e = (both_zero c.args.x _ c.well_formed.0 c.args.y _ c.well_formed.1.0 j l e).0

pub returns-clause-second : goal.returns-clause-second
returns-clause-second c j l e = (both_zero c.args.x _ c.well_formed.0 c.args.y _ c.well_formed.1.0 j l e).1
