use Rattle.jr_idct.proofs.Limits.{small_products}
use Rattle.jr_idct.proofs.small.are_small.Goals as goal

pub returns-clause-first : goal.returns-clause-first
returns-clause-first c = λ t. small_products c.args.a.now c.natural.result.now c.args.quantisers.now c.limits.result.now c.natural.ensures.values c.limits.ensures.limits (c.are_within.ensures.first t)

pub returns-clause-second : goal.returns-clause-second
returns-clause-second c = λ t. small_products c.args.b.now c.natural-2.result.now c.args.quantisers.now c.limits.result.now c.natural-2.ensures.values c.limits.ensures.limits (c.are_within.ensures.second t)
