use Rattle.jr_head.proofs.SamplingLaws.{few_across, some_across}
use Rattle.jr_head.proofs.head.Head.mcus_down.Goals as goal

pub returns-clause-some : goal.returns-clause-some
returns-clause-some c = rw c.div_ceil.ensures (some_across c.height.result c.vertical_max.result c.height.ensures.some c.vertical_max.ensures.some)

pub returns-clause-few : goal.returns-clause-few
returns-clause-few c = rw c.div_ceil.ensures (few_across c.height.result c.vertical_max.result c.height.ensures.few c.vertical_max.ensures.some c.vertical_max.ensures.few)
