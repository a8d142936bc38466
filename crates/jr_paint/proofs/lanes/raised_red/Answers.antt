use Rattle.std.proofs.Common.{rules}
use Rattle.jr_paint.proofs.Raised.{products_fit, red_lane}
use Rattle.jr_paint.proofs.lanes.raised_red.Goals as goal

pub overflow_cast-result : goal.overflow_cast-result
overflow_cast-result c = products_fit c.args.cr c.fits-cr.0 c.requires 2067 45943

pub returns : goal.returns
returns c = search (rules, red_lane c.args.cr c.fits-cr.0 c.requires)
