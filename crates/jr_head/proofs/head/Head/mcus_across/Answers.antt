use Rattle.jr_head.proofs.SamplingLaws.{few_across, some_across}
use Rattle.jr_head.proofs.head.Head.mcus_across.Goals as goal

pub returns-clause-some : goal.returns-clause-some
returns-clause-some c = rw c.div_ceil.ensures (some_across c.width.result c.horizontal_max.result c.width.ensures.some c.horizontal_max.ensures.some)

pub returns-clause-few : goal.returns-clause-few
returns-clause-few c = rw c.div_ceil.ensures (few_across c.width.result c.horizontal_max.result c.width.ensures.few c.horizontal_max.ensures.some c.horizontal_max.ensures.few)
