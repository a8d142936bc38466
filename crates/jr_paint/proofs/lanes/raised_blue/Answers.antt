use Rattle.std.proofs.Common.{rules}
use Rattle.jr_paint.proofs.Raised.{products_fit, blue_lane}
use Rattle.jr_paint.proofs.lanes.raised_blue.Goals as goal

pub overflow_cast-result : goal.overflow_cast-result
overflow_cast-result c = products_fit c.args.cb c.fits-cb.0 c.requires 1582 58066

pub returns : goal.returns
returns c = search (rules, blue_lane c.args.cb c.fits-cb.0 c.requires)
