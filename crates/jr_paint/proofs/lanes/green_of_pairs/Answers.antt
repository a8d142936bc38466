use Rattle.std.proofs.Common.{rules}
use Rattle.jr_paint.proofs.Raised.{pair_raised}
use Rattle.jr_paint.proofs.lanes.green_of_pairs.Goals as goal

pub returns : goal.returns
returns c = search (rules, pair_raised c.args.pairs c.fits-pairs.0)
