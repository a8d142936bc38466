use Rattle.std.proofs.Common.{◌≡◌, ◌*◌, ◌<◌, ℕ, List, length, sym, ap, subst, ◌∙◌, rules}
use Rattle.std.proofs.Math.Nat.{mul-pos}
use Rattle.jr_head.specs.Geometry.{order_of}
use Rattle.jr_scan.proofs.ScanLaws.{one_front, shorter_front}
use Rattle.jr_piece.specs.Outcome.{IsOutcome}
use Rattle.jr_piece.specs.Strips.{shared_strips, mcus_of_each}
use Rattle.jr_piece.specs.DataUnits.{AreEven, units_of_strips}
use Rattle.jr_piece.proofs.StripPieces.{are_even, ordered, some_mcus, report_outcome}
use Rattle.jr_piece.proofs.Strips.{all_there, meet}
use Rattle.jr_piece.proofs.piece.Piece.of_strips.Goals as goal

pub of_strips-requires-clause-some : goal.of_strips-requires-clause-some
of_strips-requires-clause-some c =
    let strips = c.args.strips.items in
    let tested = ordered c.args.interval c.args.front strips c.as_slice.result.now c.are_in_order.result c.as_slice.ensures.value c.if-not-are_in_order.false c.are_in_order.ensures.order.0 c.are_in_order.ensures.strips c.requires.of in
    let each : c.mcus_of_each.result ≡ mcus_of_each (shared_strips strips) = c.mcus_of_each.ensures ∙ ap (λ v. mcus_of_each (shared_strips v)) c.as_slice-2.ensures.value in
    mul-pos (subst (λ (n : ℕ). 0 < n) (sym each) (some_mcus c.args.front (shared_strips strips) tested.order)) c.order.ensures.some

pub of_strips-requires-clause-even : goal.of_strips-requires-clause-even
of_strips-requires-clause-even c =
    let i = c.args.interval in
    let strips = c.args.strips.items in
    let ss = shared_strips strips in
    let tested = ordered i c.args.front strips c.as_slice.result.now c.are_in_order.result c.as_slice.ensures.value c.if-not-are_in_order.false c.are_in_order.ensures.order.0 c.are_in_order.ensures.strips c.requires.of in
    let each : c.mcus_of_each.result ≡ mcus_of_each ss = c.mcus_of_each.ensures ∙ ap (λ v. mcus_of_each (shared_strips v)) c.as_slice-2.ensures.value in
    let per : length c.order.result.now ≡ length (order_of i.head) = ap (λ (o : List ℕ). length o) (c.order.ensures.value ∙ ap order_of c.head.ensures.value) in
    let even : AreEven (mcus_of_each ss * length (order_of i.head)) ss = are_even i c.args.front ss tested in
    search (rules, subst (λ (n : ℕ). AreEven n ss) (sym (ap (λ (n : ℕ). n * length c.order.result.now) each ∙ ap (λ (n : ℕ). mcus_of_each ss * n) per)) even)

pub invariant_of-result : goal.invariant_of-result
invariant_of-result c =
    let i = c.args.interval in
    let strips = c.args.strips.items in
    let tested = ordered i c.args.front strips c.as_slice.result.now c.are_in_order.result c.as_slice.ensures.value c.if-not-are_in_order.false c.are_in_order.ensures.order.0 c.are_in_order.ensures.strips c.requires.of in
    let stated = report_outcome (meet one_front shorter_front) (all_there one_front) i c.args.front c.args.is_sound (shared_strips strips) tested c.requires.reports in
    let units : c.of_strips.result ≡ units_of_strips (shared_strips strips) = search (rules, c.of_strips.ensures) in
    search (rules, subst (λ us. IsOutcome (record { interval = i; is_sound = c.args.is_sound; front = c.args.front; samples = us })) (sym units) stated)

pub returns-clause-outcome : goal.returns-clause-outcome
returns-clause-outcome c = search (rules, invariant_of-result c)
