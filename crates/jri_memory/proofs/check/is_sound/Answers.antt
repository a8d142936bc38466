use Rattle.std.proofs.Common.{rules, subst}
use Rattle.jr_scan.specs.Mcus.{HasNoDecoding}
use Rattle.jri_memory.proofs.check.is_sound.Goals as goal

pub returns-in-Some : goal.returns-in-Some
returns-in-Some c = search (rules, subst HasNoDecoding c.interval_ref.ensures c.in-Some.ensures.damaged)
