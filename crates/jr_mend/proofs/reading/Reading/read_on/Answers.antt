use Rattle.std.proofs.Common.{◌≡◌, ℕ, ◌+◌, ◌-◌, ◌<◌, ◌≤◌, List, length, take, drop, sym, ap, subst, length-append, length-drop, arith}
use Rattle.jr_cut.specs.Cut.{IsStop, marker}
use Rattle.jr_cut.proofs.Cuts.{rest_is}
use Rattle.jr_cut.proofs.Segments.{length_marker}
use Rattle.jr_mend.specs.declared.following.FoundMarker.{FoundMarker}
use Rattle.jr_mend.specs.Reading.{Meets}
use Rattle.jr_mend.specs.Markers.{scan_markers}
use Rattle.jr_mend.specs.Reading.{IsOutlook}
use Rattle.jr_mend.specs.Resync.{EndsResync}
use Rattle.jr_scan.specs.ScanValue.{intervals_of}
use Rattle.jr_mend.proofs.reading.Reading.read_on.Goals as goal

-- a marker lies within the file
marker_within : (n size since k at : ℕ) (file tail : List ℕ) (m : FoundMarker) → at ≤ length file → tail ≡ drop at file → Meets n size since k tail m → at + m.length ≤ length file
marker_within n size since k at file tail m there is meets =
    omega (arith, there, meets.long, ap length is, length-drop at file, ap length meets.spelled, length-append (marker meets.more m.code) (drop m.length tail), length_marker meets.more m.code)

-- the same bytes and the same number of intervals, as the header and the file have them
meets_here : (n m size since k : ℕ) (x y : List ℕ) (f : FoundMarker) → x ≡ y → n ≡ m → Meets n size since k x f → Meets m size since k y f
meets_here n m size since k x y f same number is = subst (λ (i : ℕ). Meets i size since k y f) number (subst (λ (z : List ℕ). Meets n size since k z f) same is)

pub following_at-requires-clause-stop : goal.following_at-requires-clause-stop
following_at-requires-clause-stop c = subst IsStop (sym (rest_is c.args.file.now c.markers.self.at)) c.markers.invariant.stop

pub returns-in-Err-clause-ends : goal.returns-in-Err-clause-ends
returns-in-Err-clause-ends c =
    let w = c.markers.self in
    let file = c.args.file.now in
    subst (λ n. EndsResync n w.k w.at (drop w.at file) c.in-Err.ended) c.intervals-intervals.ensures.value (subst (λ x. EndsResync c.intervals-intervals.result w.k w.at x c.in-Err.ended) (rest_is file w.at) c.in-Err.ensures.end)

pub take-requires-clause-within : goal.take-requires-clause-within
take-requires-clause-within c = marker_within _ _ _ _ c.markers.self.at c.args.file.now _ c.in-Ok.marker c.markers.invariant.within (rest_is c.args.file.now c.markers.self.at) c.in-Ok.ensures.marker

pub markers-preserved : goal.markers-preserved
markers-preserved c = c.in_ok-take-in-Ok.ensures.read c.args.head.now c.markers.invariant (meets_here _ _ _ _ _ _ _ c.in-Ok.marker (rest_is c.args.file.now c.markers.self.at) c.intervals-intervals.ensures.value c.in-Ok.ensures.marker)

pub markers-smaller : goal.markers-smaller
markers-smaller c =
    let meets = meets_here _ _ _ _ _ _ _ c.in-Ok.marker (rest_is c.args.file.now c.markers.self.at) c.intervals-intervals.ensures.value c.in-Ok.ensures.marker in
    let after = c.in_ok-take-in-Ok.ensures.read c.args.head.now c.markers.invariant meets in
    let less : length c.args.file.now - c.take.new.self.at < length c.args.file.now - c.markers.self.at = omega (arith, c.in_ok-take-in-Ok.ensures.further, meets.long, after.within) in
    less

pub following_at-requires-clause-known : goal.following_at-requires-clause-known
following_at-requires-clause-known c =
    let w = c.markers.self in
    let file = c.args.file.now in
    let here = subst (λ (x : List ℕ). IsOutlook (intervals_of c.args.head.now) (scan_markers (intervals_of c.args.head.now) x) w.outlook) (sym (rest_is file w.at)) c.markers.invariant.outlook in
    subst (λ (n : ℕ). IsOutlook n (scan_markers n (take (length file - w.at) (drop w.at file))) w.outlook) (sym c.intervals-intervals.ensures.value) here
