use Rattle.std.proofs.Common.{◌<◌, ◌≤◌, ap, subst, sym, ◌∙◌, arith}
use Rattle.std.proofs.lemmas.Nat.{mul-le}
use Rattle.jr_base.specs.declared.limits.TheConstants.{MAX_MCUS}
use Rattle.jr_head.specs.HeadValue.{HeadValue}
use Rattle.jr_head.specs.Geometry.{blocks_of, mcus_of}
use Rattle.jr_scan.specs.ScanValue.{ScanValue}
use Rattle.jr_wall.proofs.painting.BoardUnits.unit.Goals as goal

pub overflow_mul-within : goal.overflow_mul-within
overflow_mul-within c =
    let head = c.head-head.ensures.value ∙ ap (λ (s : ScanValue). s.head) c.scan.ensures in
    let mcu = subst (λ (h : HeadValue). c.args.mcu < mcus_of h) (sym head) c.requires.mcu in
    let few : c.interval_with-interval.result.1 ≤ MAX_MCUS = omega (arith, mcu, c.mcus-mcus.ensures.value, c.mcus-mcus.ensures.few, c.interval_with-interval.ensures.few) in
    omega (arith, mul-le _ _ MAX_MCUS 10 few c.order.ensures.few)

pub overflow_add-within : goal.overflow_add-within
overflow_add-within c =
    let head = c.head-head.ensures.value ∙ ap (λ (s : ScanValue). s.head) c.scan.ensures in
    let mcu = subst (λ (h : HeadValue). c.args.mcu < mcus_of h) (sym head) c.requires.mcu in
    let block = subst (λ (h : HeadValue). c.args.block < blocks_of h) (sym head) c.requires.block in
    let few : c.interval_with-interval.result.1 ≤ MAX_MCUS = omega (arith, mcu, c.mcus-mcus.ensures.value, c.mcus-mcus.ensures.few, c.interval_with-interval.ensures.few) in
    omega (arith, mul-le _ _ MAX_MCUS 10 few c.order.ensures.few, block, c.order.ensures.count, c.order.ensures.few)
