use Rattle.std.proofs.Common.{◌≡◌, ◌<◌, ◌∙◌, Bool, true, false, length, refl, sym, subst, inl, inr, arith}
use Rattle.std.specs.Prelude.{not}
use Rattle.jr_cut.specs.Cut.{HasMarker}
use Rattle.jr_cut.proofs.PartialSegments.{has_this_marker, marker_begins}
use Rattle.jr_mend.specs.Markers.{is_over, markers_in}
use Rattle.jr_mend.proofs.following.following_at.Goals as goal

not_true : (b : Bool) → not b ≡ false → b ≡ true
not_true true e = refl
not_true false e = absurd cc

not_false : (b : Bool) → not b ≡ true → b ≡ false
not_false true e = absurd cc
not_false false e = refl

pub returns-then-code-clause-marker : goal.returns-then-code-clause-marker
returns-then-code-clause-marker c =
    let lt : c.fill_count-fill.result < length c.args.tail.now = omega (arith, c.if-fill-tail.false, c.fill_count-fill.ensures.within) in
    let m = marker_begins _ _ c.requires.stop c.fill_count-fill.ensures.full lt (c.fill_count-fill.ensures.next lt) in
    record { more = m.more; long = omega (arith, m.count); spelled = m.spelled; means = inl c.missing_in.ensures }

pub returns-then-not-is_continued-clause-end : goal.returns-then-not-is_continued-clause-end
returns-then-not-is_continued-clause-end c =
    let lt : c.fill_count-fill.result < length c.args.tail.now = omega (arith, c.if-fill-tail.false, c.fill_count-fill.ensures.within) in
    let m = marker_begins _ _ c.requires.stop c.fill_count-fill.ensures.full lt (c.fill_count-fill.ensures.next lt) in
    let over = not_true (is_over c.args.intervals (markers_in 0 c.args.tail.now)) (sym c.is_continued.ensures ∙ c.if-not-is_continued.true) in
    (subst (HasMarker c.args.tail.now) c.if-code.false (has_this_marker _ _ m), inr (inl (refl, over)))

pub end_after_last-requires-clause-not_stuffing : goal.end_after_last-requires-clause-not_stuffing
end_after_last-requires-clause-not_stuffing c =
    let lt : c.fill_count-fill.result < length c.args.tail.now = omega (arith, c.if-fill-tail.false, c.fill_count-fill.ensures.within) in
    (marker_begins _ _ c.requires.stop c.fill_count-fill.ensures.full lt (c.fill_count-fill.ensures.next lt)).not_0

pub returns-then-k-intervals-clause-end : goal.returns-then-k-intervals-clause-end
returns-then-k-intervals-clause-end c =
    let lt : c.fill_count-fill.result < length c.args.tail.now = omega (arith, c.if-fill-tail.false, c.fill_count-fill.ensures.within) in
    let m = marker_begins _ _ c.requires.stop c.fill_count-fill.ensures.full lt (c.fill_count-fill.ensures.next lt) in
    c.end_after_last.ensures c.args.intervals c.args.k c.args.tail.now c.if-k-intervals.true (has_this_marker _ _ m)

pub returns-clause-marker : goal.returns-clause-marker
returns-clause-marker c =
    let lt : c.fill_count-fill.result < length c.args.tail.now = omega (arith, c.if-fill-tail.false, c.fill_count-fill.ensures.within) in
    let m = marker_begins _ _ c.requires.stop c.fill_count-fill.ensures.full lt (c.fill_count-fill.ensures.next lt) in
    record { more = m.more; long = omega (arith, m.count); spelled = m.spelled; means = inr (omega (arith, c.requires.few, c.if-k-intervals.false), c.if-code.false, not_false (is_over c.args.intervals (markers_in 0 c.args.tail.now)) (sym c.is_continued.ensures ∙ c.if-not-is_continued.false), refl) }
