use Rattle.std.proofs.Common.{rules, subst}
use Rattle.std.specs.Prelude.{Option, IfSome, IfNone}
use Rattle.jr_scan.specs.Mcus.{HasDecoding}
use Rattle.jr_scan.specs.ScanValue.{interval_of}
use Rattle.jr_damage.specs.declared.map.DamagedInterval.{DamagedInterval}
use Rattle.jr_damage.specs.Map.{IsDamageOf}
use Rattle.jri_memory.proofs.Listing.{damages_none, damages_one}
use Rattle.jri_memory.proofs.damages.store.Goals as goal

pub returns-in-Some-clause-listed : goal.returns-in-Some-clause-listed
returns-in-Some-clause-listed c file s span first i sound damaged segment a =
    let is = subst (λ (o : Option DamagedInterval). IfSome o (λ d. IsDamageOf (interval_of s i) span d)) c.in-Some.is damaged in
    search (rules, damages_one file s span first i c.args.count c.args.damages.now c.in-Some.damaged c.of.result c.requires.space is segment c.of.ensures a)

pub returns-in-None-clause-listed : goal.returns-in-None-clause-listed
returns-in-None-clause-listed c file s span first i sound damaged segment a =
    let is = subst (λ (o : Option DamagedInterval). IfNone o (HasDecoding (interval_of s i))) c.in-None.is sound in
    search (rules, damages_none file s first i c.args.count c.args.damages.now is a)
