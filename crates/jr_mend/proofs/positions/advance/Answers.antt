use Rattle.std.proofs.Common.{ℕ, ◌+◌, ◌<◌, ◌≤◌, ◌≢◌, sym, subst, ◌∙◌, get_or, get_or-set_other, rules, arith}
use Rattle.std.proofs.lemmas.List.{length-set}
use Rattle.jr_cut.specs.declared.file_segments.FileSegment.{FileSegment}
use Rattle.jr_damage.specs.Coded.{IsNextAt, IsSegmentOf}
use Rattle.jr_scan.specs.ScanValue.{intervals_of}
use Rattle.jr_mend.specs.Copies.{CopyValue}
use Rattle.jr_mend.proofs.NextPositions.{IsNextIn, IsSegmentIn, next_in_copy, nexts_long, no_segment, one_set, segment_in_copy, zip_at, zip_from}
use Rattle.jr_mend.proofs.positions.advance.Goals as goal

pub loop-k-init : goal.loop-k-init
loop-k-init c = (
  nexts_long c.args.copies.now c.args.segments.now c.args.i c.requires.at,
  λ j s lt. absurd (omega (arith, lt)),
  λ j s le lt d. zip_at (λ (e : CopyValue) (t : FileSegment). IsNextAt e.file e.scan c.args.i t.next) c.args.copies.now c.args.segments.now j d s c.requires.at lt,
)

pub bounds-segments-k : goal.bounds-segments-k
bounds-segments-k c = omega (arith, c.loop-k-test.true, c.loop-k.invariant.0)

pub bounds-segments-k-in-loop-k : goal.bounds-segments-k-in-loop-k
bounds-segments-k-in-loop-k c = omega (arith, c.loop-k-test.true, c.loop-k.invariant.0)

pub segment_in-requires-clause-there : goal.segment_in-requires-clause-there
segment_in-requires-clause-there c =
    subst (λ (d : CopyValue). c.args.i < intervals_of d.scan.head) (sym c.index-copies-k.is) (c.requires.there c.loop-k.k c.index-copies-k.result c.loop-k-test.true)

pub segment_in-requires-clause-at : goal.segment_in-requires-clause-at
segment_in-requires-clause-at c =
    let k = c.loop-k.k in
    let here : k ≤ k = omega arith in
    let next = subst (λ (d : CopyValue). IsNextAt d.file d.scan c.args.i (get_or c.loop-k.segments k no_segment).next) (sym c.index-copies-k.is) (c.loop-k.invariant.2 k no_segment here c.loop-k-test.true c.index-copies-k.result) in
    search (rules, next)

pub loop-k-preserved : goal.loop-k-preserved
loop-k-preserved c =
    let copies = c.args.copies.now in
    let segments = c.loop-k.segments in
    let k = c.loop-k.k in
    let next = c.segment_in.result in
    let i = c.args.i in
    let copy = c.index-copies-k.result in
    let lt = c.loop-k-test.true in
    let is = c.index-copies-k.is in
    let before = c.loop-k.invariant in
    let has : IsSegmentIn copies i k next × IsNextIn copies (i + 1) k next = (segment_in_copy copies i k next copy lt is c.segment_in.ensures.segment, next_in_copy copies (i + 1) k next copy lt is c.segment_in.ensures.next) in (
      length-set segments k next ∙ before.0,
      one_set (λ (j : ℕ) (s : FileSegment). IsSegmentIn copies i j s × IsNextIn copies (i + 1) j s) segments k next has (omega (arith, lt, before.0)) before.1,
      (λ j s le there.
          let ne : j ≢ k = λ e. omega (arith, e, le) in
          let later : k ≤ j = omega (arith, le) in
          subst (λ (t : FileSegment). IsNextIn copies i j t) (sym (get_or-set_other segments k j next s ne)) (before.2 j s later there)),
    )

pub returns-clause-segments : goal.returns-clause-segments
returns-clause-segments c =
    zip_from (λ (e : CopyValue) (t : FileSegment). IsSegmentOf e.file e.scan c.args.i t.bytes) c.args.copies.now c.loop-k.segments c.loop-k.invariant.0 (λ k d s lt. (c.loop-k.invariant.1 k s (omega (arith, lt, c.loop-k-test.false))).0 d)

pub returns-clause-next : goal.returns-clause-next
returns-clause-next c =
    zip_from (λ (e : CopyValue) (t : FileSegment). IsNextAt e.file e.scan (c.args.i + 1) t.next) c.args.copies.now c.loop-k.segments c.loop-k.invariant.0 (λ k d s lt. (c.loop-k.invariant.1 k s (omega (arith, lt, c.loop-k-test.false))).1 d)
