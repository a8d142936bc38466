use Rattle.std.proofs.Common.{rules}
use Rattle.jr_paint.proofs.Stored.{stored}
use Rattle.jr_paint.proofs.stores.store.Goals as goal

pub returns : goal.returns
returns c =
    stored c.args.i c.args.out.now c.args.red c.args.green c.args.blue c.placed.result.0 c.placed.result.1 c.placed.result.2 c.by_thirds-first.result c.by_thirds-second.result c.by_thirds-third.result
    c.placed.ensures.red c.placed.ensures.green c.placed.ensures.blue (search (rules, c.by_thirds-first.ensures)) (search (rules, c.by_thirds-second.ensures)) (search (rules, c.by_thirds-third.ensures))
