use Rattle.std.proofs.Common.{◌*◌, ◌<◌, ◌∙◌, refl, arith}
use Rattle.jr_head.specs.Geometry.{mcus_of}
use Rattle.jr_head.proofs.IntervalLaws.{interval_starts}
use Rattle.jr_head.proofs.head.Head.first_mcu.Goals as goal

starts : (c : goal.After-from) → c.args.interval * c.from.result < mcus_of c.args.self.now
starts c = interval_starts c.args.self.now c.from.result (mcus_of c.args.self.now) c.args.interval (c.from.ensures ∙ c.restart.ensures) (omega (arith, c.mcus-all.ensures.value, c.mcus-all.ensures.some)) refl c.requires

pub overflow_mul-result : goal.overflow_mul-result
overflow_mul-result c = let s = starts c in omega (arith, s, c.mcus-all.ensures.value, c.mcus-all.ensures.few)

pub returns-clause-inside : goal.returns-clause-inside
returns-clause-inside c = starts c
