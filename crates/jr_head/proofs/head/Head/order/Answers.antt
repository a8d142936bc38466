use Rattle.std.proofs.Common.{◌∙◌, ap, length}
use Rattle.jr_head.specs.Geometry.{blocks_of}
use Rattle.jr_head.proofs.SamplingLaws.{length-order, order_within, units_some, some_there}
use Rattle.jr_head.proofs.head.Head.order.Goals as goal

pub returns-clause-count : goal.returns-clause-count
returns-clause-count c =
    ap length (c.as_slice.ensures.value ∙ c.self.invariant.order) ∙ length-order 0 c.self.inside.components.items ∙ ap blocks_of c.self.view_is

pub returns-clause-some : goal.returns-clause-some
returns-clause-some c =
    rw (ap length (c.as_slice.ensures.value ∙ c.self.invariant.order) ∙ length-order 0 c.self.inside.components.items)
    (units_some c.self.inside.components.items (some_there c.self.inside.kind c.self.inside.components.items c.self.invariant.valid.components.count) c.self.invariant.valid.components.sampled)

pub returns-clause-few : goal.returns-clause-few
returns-clause-few c =
    rw (ap length (c.as_slice.ensures.value ∙ c.self.invariant.order) ∙ length-order 0 c.self.inside.components.items)
    c.self.invariant.valid.components.blocks

pub returns-clause-within : goal.returns-clause-within
returns-clause-within c =
    rw (c.as_slice.ensures.value, c.self.invariant.order, ← c.self.view_is) (order_within c.self.inside.components.items)
