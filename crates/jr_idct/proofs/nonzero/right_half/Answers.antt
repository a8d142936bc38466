use Rattle.std.proofs.Common.{refl}
use Rattle.jr_idct.proofs.ZeroLanes.{masked, right_kept}
use Rattle.jr_idct.proofs.nonzero.right_half.Goals as goal

pub returns : goal.returns
returns c j l g = masked c.args.x _ c.well_formed.0 _ refl j l (right_kept j l g)
