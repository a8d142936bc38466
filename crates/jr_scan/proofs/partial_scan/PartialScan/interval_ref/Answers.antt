use Rattle.std.proofs.Common.{rules, ◌≡◌, ◌-◌, [], get_or, length, ap, sym, ◌∙◌, arith}
use Rattle.jr_scan.specs.PartialScan.{PartialScanValue}
use Rattle.jr_scan.specs.IntervalValue.{IntervalValue}
use Rattle.jr_scan.specs.ScanValue.{interval_of, intervals_of, mcus_in}
use Rattle.jr_scan.proofs.Scans.{interval_is, padded_at, padded_count}
use Rattle.jr_scan.proofs.partial_scan.PartialScan.interval_ref.Goals as goal

pub mcus_in-requires : goal.mcus_in-requires
mcus_in-requires c =
    let segments = c.self.inside.cut.segments in
    let count = padded_count segments (intervals_of c.self.inside.head) (omega (arith, c.self.invariant.0, c.self.invariant.1)) in
    omega (arith, c.requires, count, ap (λ (g : PartialScanValue). length g.scan.intervals) c.self.view_is)

pub returns : goal.returns
returns c =
    let head = c.self.inside.head in
    let segments = c.self.inside.cut.segments in
    let i = c.args.i in
    let made = c.of.ensures in
    let come : c.data.result.now ≡ get_or segments i [] = search (rules, c.data.ensures.bytes) in
    let kept = ap (λ (v : IntervalValue). v.bytes) made ∙ come ∙ sym (padded_at segments (intervals_of head - length segments) i) in
    interval_is c.of.result i (mcus_in head i) _ head (ap (λ (v : IntervalValue). v.number) made) (ap (λ (v : IntervalValue). v.mcus) made ∙ c.mcus_in.ensures.value) kept (ap (λ (v : IntervalValue). v.head) made)
    ∙ ap (λ (g : PartialScanValue). interval_of g.scan i) c.self.view_is
