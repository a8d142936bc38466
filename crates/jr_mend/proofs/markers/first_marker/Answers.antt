use Rattle.std.proofs.Common.{arith}
use Rattle.jr_mend.proofs.MarkersLaw.{found_in, marker_here, no_marker, some_fill}
use Rattle.jr_mend.proofs.markers.first_marker.Goals as goal

pub overflow_sub-result : goal.overflow_sub-result
overflow_sub-result c =
    let s = c.segment_length-at.ensures in
    let f = found_in c.args.bytes.now c.segment_length-at.result c.fill_count-fill.result s.within s.data s.stop c.fill_count-fill.ensures.full c.fill_count-fill.ensures.next in
    omega (arith, some_fill _ _ _ f (omega (arith, c.if-at-fill.false)))

pub returns-then-at-fill-clause-none : goal.returns-then-at-fill-clause-none
returns-then-at-fill-clause-none c =
    let s = c.segment_length-at.ensures in
    let f = found_in c.args.bytes.now c.segment_length-at.result c.fill_count-fill.result s.within s.data s.stop c.fill_count-fill.ensures.full c.fill_count-fill.ensures.next in
    no_marker _ _ _ f c.if-at-fill.true

pub returns-clause-first : goal.returns-clause-first
returns-clause-first c =
    let s = c.segment_length-at.ensures in
    let f = found_in c.args.bytes.now c.segment_length-at.result c.fill_count-fill.result s.within s.data s.stop c.fill_count-fill.ensures.full c.fill_count-fill.ensures.next in
    marker_here _ _ _ f c.if-at-fill.false
