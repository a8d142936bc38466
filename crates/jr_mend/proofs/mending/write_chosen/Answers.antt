use Rattle.std.proofs.Common.{get_or, length, refl, slice_range, sym, subst, arith}
use Rattle.std.proofs.lemmas.Option.{slice_get_read}
use Rattle.jr_scan.specs.IntervalValue.{IntervalValue}
use Rattle.jr_mend.specs.Choice.{IsChoiceOf}
use Rattle.jr_mend.specs.Copies.{versions_of}
use Rattle.jr_mend.proofs.Choices.{chosen_in}
use Rattle.jr_mend.proofs.NextPositions.{no_segment, segment_of, segments_long}
use Rattle.jr_mend.proofs.mending.write_chosen.Goals as goal

pub bounds-segments-number : goal.bounds-segments-number
bounds-segments-number c = omega (arith, c.choose-choice.ensures.within, segments_long c.args.copies.now c.args.segments.now c.args.i c.requires.at)

pub write_from-requires : goal.write_from-requires
write_from-requires c =
    segment_of c.args.copies.now c.args.segments.now c.args.i c.choose-choice.result.copy c.index-copies-number.result c.requires.at c.choose-choice.ensures.within c.index-copies-number.is

pub returns-clause-written : goal.returns-clause-written
returns-clause-written c =
    let copies = c.args.copies.now in
    let i = c.args.i in
    let number = c.choose-choice.result.copy in
    let copy = c.index-copies-number.result in
    let chosen = c.choose-choice.ensures.choice in
    let there = c.choose-choice.ensures.within in
    let span = (get_or c.args.segments.now number no_segment).bytes in
    let same = chosen_in copies i number chosen.0 copy chosen.1.is c.index-copies-number.is in (
      slice_range copy.file span.start span.end,
      record {
        copy = copy;
        is = slice_get_read copies (length copies) number copy refl there c.index-copies-number.is;
        choice = subst (λ (v : IntervalValue). IsChoiceOf (versions_of copies i) v c.choose-choice.result) (sym same) chosen.1;
        span = span;
        segment = segment_of copies c.args.segments.now i number copy c.requires.at there c.index-copies-number.is;
        are = refl;
      },
      c.in_ok-write_from.ensures,
    )
