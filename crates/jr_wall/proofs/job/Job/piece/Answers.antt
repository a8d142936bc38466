use Rattle.std.proofs.Common.{◌≡◌, ◌∙◌, length, ap, sym, subst, rules, arith}
use Rattle.std.specs.Arc.{arc_value}
use Rattle.jr_scan.specs.IntervalValue.{IntervalValue}
use Rattle.jr_scan.specs.ScanValue.{ScanValue, interval_of}
use Rattle.jr_piece.specs.Strips.{AreOf, ReportsEnd, shared_strips}
use Rattle.jr_wall.proofs.Gathering.{its_interval, piece_of, taken}
use Rattle.jr_wall.proofs.job.Job.piece.Goals as goal

pub interval-requires : goal.interval-requires
interval-requires g c =
    let e = c.in_ok-number.ensures in
    let it = its_interval g.S.OneScan.part c.args.part.now c.deref_mut.result.now.work.gathered c.in_ok-number.number c.requires e.own e.number in
    omega (arith, it.0, ap (λ (s : ScanValue). length s.intervals) c.scan.ensures)

pub of_strips-requires-clause-of : goal.of_strips-requires-clause-of
of_strips-requires-clause-of g c =
    let p = c.args.part.now in
    let n = c.in_ok-number.number in
    let e = c.in_ok-number.ensures in
    let it = its_interval g.S.OneScan.part p c.deref_mut.result.now.work.gathered n c.requires e.own e.number in
    let is : c.in_ok-interval.interval ≡ interval_of p.scan n = taken c.interval.result c.in_ok-interval.interval _ c.in_ok-interval.ensures.value c.interval.ensures ∙ ap (λ (s : ScanValue). interval_of s n) c.scan.ensures in
    subst (λ (i : IntervalValue). AreOf i (shared_strips c.in_ok-number.strips.items)) (it.1 ∙ sym is) e.strips

pub of_strips-requires-clause-reports : goal.of_strips-requires-clause-reports
of_strips-requires-clause-reports g c =
    let p = c.args.part.now in
    let n = c.in_ok-number.number in
    let e = c.in_ok-number.ensures in
    let it = its_interval g.S.OneScan.part p c.deref_mut.result.now.work.gathered n c.requires e.own e.number in
    let is : c.in_ok-interval.interval ≡ interval_of p.scan n = taken c.interval.result c.in_ok-interval.interval _ c.in_ok-interval.ensures.value c.interval.ensures ∙ ap (λ (s : ScanValue). interval_of s n) c.scan.ensures in
    subst (λ (i : IntervalValue). ReportsEnd i c.in_ok-number.end.front c.in_ok-number.end.is_sound) (it.1 ∙ sym is) e.end

pub returns : goal.returns
returns g c =
    let p = c.args.part.now in
    let n = c.in_ok-number.number in
    let i = arc_value c.self.inside.interval in
    let number : n ≡ i.number = search (rules, c.number.ensures, c.deref.ensures) in
    let own = its_interval g.S.OneScan.part p i n c.requires c.self.invariant number in
    let is : c.in_ok-interval.interval ≡ interval_of p.scan n = taken c.interval.result c.in_ok-interval.interval _ c.in_ok-interval.ensures.value c.interval.ensures ∙ ap (λ (s : ScanValue). interval_of s n) c.scan.ensures in
    piece_of c.of_strips.result c.ok-2.result c.in_ok-interval.interval c.args.self.now c.ok-2.ensures.value c.of_strips.ensures.ok (is ∙ sym own.1 ∙ c.self.view_is)
