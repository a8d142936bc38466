use Rattle.std.proofs.Common.{rules, ◌<◌, length, arith}
use Rattle.jr_cut.proofs.PartialSegments.{marker_begins, has_this_marker, is_restart}
use Rattle.jr_cut.proofs.stop.stop_at.Goals as goal

pub end_at-requires-clause-not_stuffing : goal.end_at-requires-clause-not_stuffing
end_at-requires-clause-not_stuffing c =
    let lt : c.args.fill < length c.args.tail.now = omega (arith, c.if-fill-tail.false, c.requires.within) in
    (marker_begins _ _ c.requires.stop c.requires.full lt (c.requires.next lt)).not_0

pub returns-in-Some : goal.returns-in-Some
returns-in-Some c =
    let lt : c.args.fill < length c.args.tail.now = omega (arith, c.if-fill-tail.false, c.requires.within) in
    search (rules, c.in-Some.ensures.ended _ (has_this_marker _ _ (marker_begins _ _ c.requires.stop c.requires.full lt (c.requires.next lt))))

pub returns-in-None : goal.returns-in-None
returns-in-None c =
    let lt : c.args.fill < length c.args.tail.now = omega (arith, c.if-fill-tail.false, c.requires.within) in
    (c.in-None.ensures.more, is_restart _ _ _ (marker_begins _ _ c.requires.stop c.requires.full lt (c.requires.next lt)) c.in-None.ensures.number)
