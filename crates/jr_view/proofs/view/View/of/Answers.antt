use Rattle.std.proofs.Common.{rules, Bool, List, get_or, ◌≡◌, ◌*◌, false, length, replicate, ap, ◌∙◌}
use Rattle.std.specs.Arc.{arc_value}
use Rattle.jr_head.specs.Geometry.{blocks_of, mcus_of}
use Rattle.jr_scan.specs.ScanValue.{ScanValue}
use Rattle.jr_piece.specs.Units.{grey_unit}
use Rattle.jr_view.proofs.Parts.{new_part}
use Rattle.jr_view.proofs.Samples.{each_grey, grey_samples, new_view, unseen}
use Rattle.jr_view.proofs.view.View.of.Goals as goal

pub invariant_of-result : goal.invariant_of-result
invariant_of-result c =
    let h = c.head.result.now in
    let mcus = c.mcus-mcus.result in
    let n = length c.order.result.now in
    let seen : c.in_ok-vec.field-0.items ≡ replicate mcus false = c.in_ok-vec.ensures.items_if_clones_equal (λ y e. e) in
    let head : h ≡ (arc_value c.args.scan.now).head = c.head.ensures.value ∙ ap (λ (s : ScanValue). s.head) c.deref.ensures in
    let same : c.head-2.result.now ≡ (arc_value c.args.scan.now).head = c.head-2.ensures.value ∙ ap (λ (s : ScanValue). s.head) c.deref-2.ensures in
    new_view (arc_value c.args.scan.now) (arc_value c.in_ok-try_clone.field-0) mcus n c.in_ok-grey_units.field-0.items c.in_ok-vec.field-0.items
    c.in_ok-try_clone.ensures (c.mcus-mcus.ensures.value ∙ ap mcus_of head) (c.order.ensures.count ∙ ap blocks_of same) c.mcus-mcus.ensures.some c.in_ok-grey_units.ensures seen

pub returns-clause-grey : goal.returns-clause-grey
returns-clause-grey c mcu k =
    let items : c.in_ok-grey_units.field-0.items ≡ replicate (c.mcus-mcus.result * length c.order.result.now) grey_unit = c.in_ok-grey_units.ensures in
    rw items (each_grey (c.mcus-mcus.result * length c.order.result.now) _)

pub returns-clause-samples : goal.returns-clause-samples
returns-clause-samples c = grey_samples _ (returns-clause-grey c)

pub returns-clause-part : goal.returns-clause-part
returns-clause-part c =
    let seen : c.in_ok-vec.field-0.items ≡ replicate c.mcus-mcus.result false = c.in_ok-vec.ensures.items_if_clones_equal (λ y e. e) in
    new_part _ (search rules) (λ mcu. ap (λ (bs : List Bool). get_or bs mcu false) seen ∙ unseen c.mcus-mcus.result mcu) (returns-clause-grey c)
