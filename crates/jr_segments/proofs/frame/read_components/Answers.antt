use Rattle.jr_segments.proofs.FrameLaws.{components_more, components_all}
use Rattle.jr_segments.proofs.frame.read_components.Goals as goal

pub loop-rest-preserved : goal.loop-rest-preserved
loop-rest-preserved c =
    components_more c.loop-rest.components.items c.push.new.self.items _ c.loop-rest.rest.now c.in-len3-up.len_at_least c.in_ok-push.ensures.items c.loop-rest.invariant

pub returns : goal.returns
returns c = components_all c.loop-rest.components.items _ c.loop-rest.rest.now c.in_default.len_below c.loop-rest.invariant
