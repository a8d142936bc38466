use Rattle.std.proofs.Common.{inl, inr, ◌≤◌, ◌+◌, refl, ap, subst, arith}
use Rattle.std.proofs.lemmas.Bool.{cases_lt}
use Rattle.jr_head.specs.Geometry.{IsValid}
use Rattle.jr_scan.specs.Run.{RunOf}
use Rattle.jr_scan.specs.McuReader.{McuReaderValue}
use Rattle.jr_scan.proofs.McuReaders.{passed_on, takes_none}
use Rattle.jr_scan.proofs.mcu_reader.McuReader.skip.Goals as goal

pub returns-clause-passed : goal.returns-clause-passed
returns-clause-passed c = λ zs s.
    let r = c.args.self.now in
    let new = c.take_mcus.new.self in
    let valid = subst (λ (x : McuReaderValue). IsValid x.run.interval.head) c.self.view_is c.self.invariant.valid in
    let t = c.take_mcus.ensures.taken in
    passed_on r new new c.take_mcus.result zs t.0 valid c.take_mcus.ensures.run c.take_mcus.ensures.mcus c.take_mcus.ensures.few t.1 refl s

pub returns-clause-stays : goal.returns-clause-stays
returns-clause-stays c = λ ended.
    let r = c.args.self.now in
    let k = c.take_mcus.result in
    let t = c.take_mcus.ensures.taken in
    let few : r.mcu + k ≤ r.run.mcus = omega (arith, c.take_mcus.ensures.few, c.take_mcus.ensures.mcus, ap (λ (o : RunOf). o.mcus) c.take_mcus.ensures.run) in
    c.take_mcus.ensures.stays (takes_none r c.take_mcus.new.self.place k t.0 few t.1 ended)

pub returns-clause-ended : goal.returns-clause-ended
returns-clause-ended c = λ more. elim (cases_lt c.take_mcus.result c.min-most.result) [
  | inl less ↦ inr (c.take_mcus.ensures.ended less)
  | inr full ↦ inl (omega (arith, more, full, c.min-most.ensures, c.take_mcus.ensures.mcus, ap (λ (o : RunOf). o.mcus) c.take_mcus.ensures.run, ap (λ (x : McuReaderValue). x.mcu) c.self.view_is, ap (λ (x : McuReaderValue). x.run.mcus) c.self.view_is))
]
