use Rattle.std.proofs.Common.{rules}
use Rattle.jr_base.specs.Zigzag.{zigzag_place}
use Rattle.jr_base.proofs.Orders.{place_below}
use Rattle.jr_base.proofs.zigzag.place_at.Goals as goal

pub returns-clause-value : goal.returns-clause-value
unfolding zigzag_place
returns-clause-value c = search rules

pub returns-clause-below : goal.returns-clause-below
unfolding zigzag_place
returns-clause-below c = place_below c.args.n c.requires
