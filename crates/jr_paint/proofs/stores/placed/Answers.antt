use Rattle.std.proofs.Common.{rules}
use Rattle.jr_paint.proofs.Shuffled.{spread_red, spread_green, spread_blue}
use Rattle.jr_paint.proofs.stores.placed.Goals as goal

pub returns-clause-red : goal.returns-clause-red
returns-clause-red c = search (rules, spread_red c.args.red c.fits-red.0)

pub returns-clause-green : goal.returns-clause-green
returns-clause-green c = search (rules, spread_green c.args.green c.fits-green.0)

pub returns-clause-blue : goal.returns-clause-blue
returns-clause-blue c = search (rules, spread_blue c.args.blue c.fits-blue.0)
