use Rattle.std.proofs.Common.{inl, inr, ◌/◌, ℕ, ◌≡◌, ◌≤◌, ◌+◌, ◌*◌, ◌++◌, ℤ, List, length, refl, ap, sym, subst, ◌∙◌, rules, arith}
use Rattle.std.specs.List.{All}
use Rattle.std.proofs.lemmas.Bool.{cases_lt}
use Rattle.std.proofs.Math.Nat.{le-div_iff_mul-le}
use Rattle.jr_head.specs.Geometry.{IsValid, order_of}
use Rattle.jr_mcu.specs.Block.{IsInRange}
use Rattle.jr_scan.specs.Run.{RunOf}
use Rattle.jr_scan.specs.McuReader.{McuReaderValue, HasRead, per_mcu}
use Rattle.jr_scan.proofs.InRange.{run_in_range}
use Rattle.jr_scan.proofs.McuReaders.{read_on, takes_none}
use Rattle.jr_scan.proofs.mcu_reader.McuReader.read.Goals as goal

pub returns-clause-read : goal.returns-clause-read
returns-clause-read c = λ zs s.
    let r = c.args.self.now in
    let new = c.take_mcus.new.self in
    let valid = subst (λ (x : McuReaderValue). IsValid x.run.interval.head) c.self.view_is c.self.invariant.valid in
    let t = c.take_mcus.ensures.taken in
    let here = read_on r new c.take_mcus.result zs t.0 valid c.take_mcus.ensures.run c.take_mcus.ensures.mcus c.take_mcus.ensures.few t.1 s in
    subst (λ (ys : List (List ℤ)). HasRead new (zs ++ ys)) (sym (t.2 refl)) here

pub returns-clause-in_range : goal.returns-clause-in_range
returns-clause-in_range c =
    let t = c.take_mcus.ensures.taken in
    subst (All IsInRange) (sym (t.2 refl)) (run_in_range _ _ _ _ t.1)

pub returns-clause-stays : goal.returns-clause-stays
returns-clause-stays c = λ ended.
    let r = c.args.self.now in
    let k = c.take_mcus.result in
    let t = c.take_mcus.ensures.taken in
    let few : r.mcu + k ≤ r.run.mcus = omega (arith, c.take_mcus.ensures.few, c.take_mcus.ensures.mcus, ap (λ (o : RunOf). o.mcus) c.take_mcus.ensures.run) in
    c.take_mcus.ensures.stays (takes_none r c.take_mcus.new.self.place k t.0 few t.1 ended)

pub returns-clause-ended : goal.returns-clause-ended
returns-clause-ended c = λ space.
    let r = c.args.self.now in
    let k = c.take_mcus.result in
    let per = length c.order-per_mcu.result.now in
    let same : per ≡ per_mcu r = ap (λ (o : List ℕ). length o) (c.order-per_mcu.ensures.value ∙ ap order_of c.head.ensures.value) ∙ ap (λ (x : McuReaderValue). per_mcu x) c.self.view_is in
    elim (cases_lt k c.min-most.result) [
      | inl less ↦ inr (c.take_mcus.ensures.ended less)
      | inr full ↦
          let long : length c.take_mcus.new.blocks ≡ length c.args.blocks.now = search rules in
          let more : (k + 1) * per ≤ length c.args.blocks.now = omega (arith, space, long, ap (λ (n : ℕ). (k + 1) * n) same) in
          let some : k + 1 ≤ length c.args.blocks.now / per = (le-div_iff_mul-le c.order-per_mcu.ensures.some).1 more in
          inl (omega (arith, some, full, c.min-most.ensures, c.take_mcus.ensures.mcus, ap (λ (o : RunOf). o.mcus) c.take_mcus.ensures.run, ap (λ (x : McuReaderValue). x.mcu) c.self.view_is, ap (λ (x : McuReaderValue). x.run.mcus) c.self.view_is))
    ]

pub returns-clause-none : goal.returns-clause-none
returns-clause-none c = λ space first.
    let r = c.args.self.now in
    let per = length c.order-per_mcu.result.now in
    let same : per ≡ per_mcu r = ap (λ (o : List ℕ). length o) (c.order-per_mcu.ensures.value ∙ ap order_of c.head.ensures.value) ∙ ap (λ (x : McuReaderValue). per_mcu x) c.self.view_is in
    returns-clause-ended c (omega (arith, space, same, ap (λ (n : ℕ). (n + 1) * per_mcu r) first, c.order-per_mcu.ensures.few))
