use Rattle.std.proofs.Common.{◌≡◌, List, ◌++◌, ◌+◌, length, take, drop, sym, ap, subst, ◌∙◌, rules, arith}
use Rattle.std.proofs.Math.Seq.{take-append_seam}
use Rattle.jr_cut.specs.declared.file_segments.FileSegment.{FileSegment}
use Rattle.jr_mend.specs.declared.choice.Choice.{Choice}
use Rattle.jr_mend.proofs.NextPositions.{AreNextAt, AreSegmentsOf}
use Rattle.jr_mend.proofs.ScanOfCopies.{AreWritten, none_written, written_more}
use Rattle.jr_mend.proofs.mending.write_all.Goals as goal

pub loop-i-init : goal.loop-i-init
loop-i-init c =
    let copies = c.args.copies.now in
    let bytes = c.args.bytes.now.items in
    (c.in_ok-segments.ensures, subst (λ (l : List Choice). AreWritten copies l 0 bytes bytes) (sym c.new-choices.ensures.items) (none_written copies bytes), c.in_ok-buffers.ensures.chosen, c.in_ok-buffers.ensures.next)

pub loop-i-preserved : goal.loop-i-preserved
loop-i-preserved c =
    let copies = c.args.copies.now in
    let i = c.loop-i.i in
    let new = c.advance.new.segments in
    let rest = drop (length new) c.loop-i.segments.items in
    let long : c.loop-i.segments.len ≡ length new = search (rules, arith, c.advance.auto.segments) in
    let kept : take c.loop-i.segments.len (new ++ rest) ≡ new = ap (λ n. take n (new ++ rest)) long ∙ take-append_seam new rest in
    let written = c.in_ok-choice.ensures.written in (
      subst (λ (l : List FileSegment). AreNextAt copies l (i + 1)) (sym kept) c.advance.ensures.next,
      subst (λ (l : List Choice). AreWritten copies l (i + 1) c.args.bytes.now.items c.write_chosen.new.bytes.items) (sym c.in_ok-push.ensures.items)
          (written_more copies c.loop-i.choices.items i c.args.bytes.now.items c.loop-i.bytes.items c.write_chosen.new.bytes.items written.0 c.in_ok-choice.choice c.loop-i.invariant.1 written.1 written.2),
      c.in_ok-choice.ensures.chosen,
      c.in_ok-choice.ensures.next,
    )

pub write_chosen-requires-clause-there : goal.write_chosen-requires-clause-there
write_chosen-requires-clause-there c = λ k d lt. omega (arith, c.requires.there k d lt, c.loop-i-test.true)

pub write_chosen-requires-clause-at : goal.write_chosen-requires-clause-at
write_chosen-requires-clause-at c =
    let new = c.advance.new.segments in
    let rest = drop (length new) c.loop-i.segments.items in
    let long : c.loop-i.segments.len ≡ length new = search (rules, arith, c.advance.auto.segments) in
    let kept : take c.loop-i.segments.len (new ++ rest) ≡ new = ap (λ n. take n (new ++ rest)) long ∙ take-append_seam new rest in
    subst (λ (l : List FileSegment). AreSegmentsOf c.args.copies.now l c.loop-i.i) (sym (c.as_slice.ensures.value ∙ kept)) c.advance.ensures.segments

pub advance-requires-clause-there : goal.advance-requires-clause-there
advance-requires-clause-there c = λ k d lt. omega (arith, c.requires.there k d lt, c.loop-i-test.true)

pub advance-requires-clause-at : goal.advance-requires-clause-at
advance-requires-clause-at c = subst (λ (l : List FileSegment). AreNextAt c.args.copies.now l c.loop-i.i) (sym c.as_mut_slice.ensures.value) c.loop-i.invariant.0

pub returns : goal.returns
returns c =
    let all : c.loop-i.i ≡ c.args.count = omega (arith, c.loop-i-test.false, c.loop-i.auto.i-end) in
    let w = c.loop-i.invariant.1 in
    (w.raws, w.taken, w.count ∙ all, w.written)
