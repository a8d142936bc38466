use Rattle.std.proofs.Common.{◌≡◌, ◌+◌, sym, ap, subst, rules, ◌∙◌, arith}
use Rattle.jr_head.specs.HeadValue.{HeadValue}
use Rattle.jr_cut.specs.Coded.{IsSpelledAt}
use Rattle.jr_scan.specs.IntervalValue.{IntervalValue}
use Rattle.jr_scan.specs.ScanValue.{intervals_of}
use Rattle.jr_damage.specs.Coded.{IsNextAt}
use Rattle.jr_damage.specs.Doubtful.{IsDoubtOf, HasNoDoubtful}
use Rattle.jri_archive.specs.Doubts.{IsDoubtIn}
use Rattle.jr_damage.proofs.FirstSegments.{first_begins}
use Rattle.jri_archive.proofs.Doubts.{doubt_before, doubt_here, no_doubt}
use Rattle.jri_archive.proofs.map.write_map.Goals.{in-Some-first_doubtful+in_ok-write_doubtful, in_default}
use Rattle.jri_archive.proofs.map.write_map.Goals as goal

pub loop-i-init : goal.loop-i-init
loop-i-init g c =
    let s = c.args.checked.now.scan in
    let at : c.scan_at-at.result ≡ s.head.scan_at = c.scan_at-at.ensures.value ∙ ap (λ (h : HeadValue). h.scan_at) c.head.ensures.value in
    (omega (arith, at, c.requires.head.scan_at), subst (IsNextAt c.args.file.now s 0) (sym at) (first_begins c.args.file.now s c.requires), no_doubt c.args.file.now s)

pub damaged_run-requires-clause-spelled : goal.damaged_run-requires-clause-spelled
damaged_run-requires-clause-spelled g c =
    let n = c.segment_at-next in
    let s = c.args.checked.now.scan in
    let segment = n.ensures.bytes (intervals_of s.head) s.intervals s.ended (sym c.intervals-intervals.ensures.count) c.loop-i.invariant.1 in
    subst (λ (v : IntervalValue). IsSpelledAt c.args.file.now n.result.bytes v.bytes) (sym c.interval_ref.ensures) segment.spelled

pub first_doubtful-requires-clause-spelled : goal.first_doubtful-requires-clause-spelled
first_doubtful-requires-clause-spelled g c =
    let n = c.segment_at-next in
    let s = c.args.checked.now.scan in
    let segment = n.ensures.bytes (intervals_of s.head) s.intervals s.ended (sym c.intervals-intervals.ensures.count) c.loop-i.invariant.1 in
    subst (λ (v : IntervalValue). IsSpelledAt c.args.file.now n.result.bytes v.bytes) (sym c.interval_ref-in-loop-i.ensures) segment.spelled

pub loop-i-preserved : goal.loop-i-preserved
loop-i-preserved g c =
    let n = c.segment_at-next in
    let file = c.args.file.now in
    let s = c.args.checked.now.scan in
    let before = c.loop-i.invariant.2 in
    let doubt : IsDoubtIn file s (c.loop-i.i + 1) c.match-first_doubtful.is_doubtful = elim c.match-first_doubtful.branch [
      | in-Some-first_doubtful+in_ok-write_doubtful w ↦ (
          let d = w.in-Some-first_doubtful in
          let is = subst (λ (v : IntervalValue). IsDoubtOf v file n.result.bytes d.doubtful) c.interval_ref-in-loop-i.ensures d.ensures.some in
          search (rules, w.is_doubtful-is, doubt_here file s c.loop-i.i n.result.bytes d.doubtful is))
      | in_default w ↦ (
          let none : HasNoDoubtful c.interval_ref-in-loop-i.result = search (rules, c.first_doubtful.ensures.none) in
          subst (IsDoubtIn file s (c.loop-i.i + 1)) (sym w.is_doubtful-is) (doubt_before file s c.loop-i.i c.loop-i.is_doubtful before (subst HasNoDoubtful c.interval_ref-in-loop-i.ensures none)))
    ] in
    (n.ensures.within, n.ensures.next (intervals_of s.head) s.intervals s.ended (sym c.intervals-intervals.ensures.count) c.loop-i.invariant.1, doubt)
