use Rattle.std.proofs.lemmas.Bool.{eqb-true}
use Rattle.jr_idct.proofs.ZeroLanes.{all_zero}
use Rattle.jr_idct.proofs.nonzero.is_zero.Goals as goal

pub returns : goal.returns
returns c t = all_zero c.args.x _ c.well_formed.0 (eqb-true _ _ t)
