use Rattle.jr_idct.proofs.Gathers.{gather}
use Rattle.jr_idct.proofs.pair.gathered.Goals as goal

pub returns : goal.returns
returns c = gather c.args.second c.args.q0 c.args.q1 c.args.q2 c.args.q3 c.halves-upper.result c.halves-lower.result c.halves-upper.type_inv.1.0.1 c.halves-lower.type_inv.1.0.1 c.halves-upper.ensures c.halves-lower.ensures
