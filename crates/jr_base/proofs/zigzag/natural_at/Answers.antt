use Rattle.std.proofs.Common.{rules}
use Rattle.jr_base.specs.Zigzag.{natural_index}
use Rattle.jr_base.proofs.Orders.{natural_below}
use Rattle.jr_base.proofs.zigzag.natural_at.Goals as goal

pub returns-clause-value : goal.returns-clause-value
unfolding natural_index
returns-clause-value c = search rules

pub returns-clause-below : goal.returns-clause-below
unfolding natural_index
returns-clause-below c = natural_below c.args.index c.requires
