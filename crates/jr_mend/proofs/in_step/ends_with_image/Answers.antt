use Rattle.std.proofs.Common.{◌+◌, ◌≤◌, List, ℕ, length, rules, subst}
use Rattle.jr_base.specs.declared.marker.TheConstants.{EOI}
use Rattle.jr_cut.specs.declared.stop.Stop.TheVariants.{Restart}
use Rattle.jr_cut.specs.Cut.{HasMarker}
use Rattle.jr_cut.specs.PartialSegments.{IsStopOf}
use Rattle.jr_cut.proofs.Cuts.{rest_is}
use Rattle.jr_mend.proofs.DueMarkers.{due_end, due_first, due_next, marker_within}
use Rattle.jr_mend.proofs.Readings.{segment}
use Rattle.jr_mend.proofs.in_step.ends_with_image.Goals as goal

pub segments-init : goal.segments-init
segments-init c =
    let first = c.segment_length-at.ensures in
    due_first c.args.intervals c.args.bytes.now c.segment_length-at.result c.requires first.within first.data first.stop

pub returns-in-End-EndOfImage : goal.returns-in-End-EndOfImage
returns-in-End-EndOfImage c = λ last.
    let bytes = c.args.bytes.now in
    due_end c.args.intervals bytes c.segments.at c.segments.k c.segments.invariant (subst (λ (x : List ℕ). HasMarker x EOI) (rest_is bytes c.segments.at) (search (rules, c.in-End-EndOfImage.ensures))) (search (rules, last))

pub segments-preserved : goal.segments-preserved
segments-preserved c =
    let n = c.args.intervals in
    let bytes = c.args.bytes.now in
    let due = c.segments.invariant in
    let at = c.segments.at in
    let count = c.in-Restart.marker in
    let stop = subst (λ (x : List ℕ). IsStopOf n c.segments.k 0 x (Restart count)) (rest_is bytes at) (search (rules, c.in-Restart.ensures)) in
    let there : at + count ≤ length bytes = marker_within n bytes at c.segments.k count due.within stop in
    let found = c.segment_length.ensures in
    due_next n bytes at c.segments.k count c.segment_length.result due stop (segment bytes (at + count) c.segment_length.result there found.within found.data found.stop)
