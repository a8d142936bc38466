use Rattle.std.proofs.lemmas.Nat.{mul-le}
use Rattle.jr_base.specs.declared.limits.TheConstants.{MAX_MCUS_ACROSS}
use Rattle.jr_head.proofs.head.Head.mcus.Goals as goal

pub returns-clause-some : goal.returns-clause-some
returns-clause-some c = mul-le 1 1 _ _ c.mcus_across.ensures.some c.mcus_down.ensures.some

pub returns-clause-few : goal.returns-clause-few
returns-clause-few c = mul-le _ _ MAX_MCUS_ACROSS MAX_MCUS_ACROSS c.mcus_across.ensures.few c.mcus_down.ensures.few
