use Rattle.std.proofs.Common.{◌≡◌, ◌<◌, ◌+◌, ◌∙◌, List, [], ◌∷◌, length, take, sym, ap, subst, arith}
use Rattle.jr_scan.specs.IntervalValue.{IntervalValue}
use Rattle.jr_scan.specs.ScanValue.{intervals_of}
use Rattle.jr_mend.specs.Choice.{IsChoiceOf}
use Rattle.jr_mend.specs.Copies.{CopyValue, versions_of}
use Rattle.jr_mend.proofs.Choices.{below_all, versions_all, versions_more}
use Rattle.jr_mend.proofs.NextPositions.{segment_of, segments_long, space_of, space_stays}
use Rattle.jr_mend.proofs.ScanOfCopies.{version_of}
use Rattle.jr_mend.proofs.choice.choose.Goals as goal

pub bounds-segments-0 : goal.bounds-segments-0
bounds-segments-0 c = omega (arith, c.requires.some, segments_long c.args.copies.now c.args.segments.now c.args.i c.requires.at)

pub first_choice-choice-requires-clause-there : goal.first_choice-choice-requires-clause-there
first_choice-choice-requires-clause-there c = subst (λ (d : CopyValue). c.args.i < intervals_of d.scan.head) (sym c.index-copies-0.is) (c.requires.there 0 c.index-copies-0.result c.requires.some)

pub first_choice-choice-requires-clause-at : goal.first_choice-choice-requires-clause-at
first_choice-choice-requires-clause-at c =
    segment_of c.args.copies.now c.args.segments.now c.args.i 0 c.index-copies-0.result c.requires.at c.requires.some c.index-copies-0.is

pub first_choice-choice-requires-clause-capacity : goal.first_choice-choice-requires-clause-capacity
first_choice-choice-requires-clause-capacity c = space_of c.args.copies.now _ 0 c.index-copies-0.result c.requires.chosen c.requires.some c.index-copies-0.is

pub loop-number-init : goal.loop-number-init
loop-number-init c =
    let copies = c.args.copies.now in
    let i = c.args.i in
    let are : versions_of (take (0 + 1) copies) i ≡ version_of i c.index-copies-0.result ∷ [] = versions_more copies i 0 c.index-copies-0.result c.requires.some c.index-copies-0.is in (
      subst (λ (l : List IntervalValue). (v : IntervalValue) × IsChoiceOf l v c.first_choice-choice.result) (sym are) c.first_choice-choice.ensures.choice,
      space_stays copies _ _ c.first_choice-choice.ensures.capacity c.requires.chosen,
      c.requires.next,
    )

pub loop-number-preserved : goal.loop-number-preserved
loop-number-preserved c =
    let copies = c.args.copies.now in
    let stated = c.with_copy-choice.ensures in
    (stated.choice, space_stays copies _ _ stated.chosen c.loop-number.invariant.1, space_stays copies _ _ stated.next c.loop-number.invariant.2)

pub returns-clause-choice : goal.returns-clause-choice
returns-clause-choice c =
    let copies = c.args.copies.now in
    let all : c.loop-number.number ≡ length copies = omega (arith, c.loop-number-test.false, c.loop-number.auto.number-end, c.requires.some) in
    subst (λ (l : List IntervalValue). (v : IntervalValue) × IsChoiceOf l v c.loop-number.choice) (ap (λ n. versions_of (take n copies) c.args.i) all ∙ versions_all copies c.args.i) c.loop-number.invariant.0

pub returns-clause-within : goal.returns-clause-within
returns-clause-within c = below_all c.args.copies.now c.args.i c.loop-number.number c.loop-number.choice.copy c.loop-number.invariant.0.0 c.loop-number.invariant.0.1.is

pub overflow_cast-number : goal.overflow_cast-number
overflow_cast-number c = omega (arith, c.loop-number-test.true, c.requires.few)
