use Rattle.std.proofs.Common.{refl}
use Rattle.jr_idct.proofs.ZeroLanes.{masked, rest_kept}
use Rattle.jr_idct.proofs.nonzero.but_first.Goals as goal

pub returns : goal.returns
returns c j p l = masked c.args.x _ c.well_formed.0 _ refl j l (rest_kept j p l)
