use Rattle.std.proofs.Common.{rules, ◌≡◌, ℕ, ◌-◌, ◌++◌, List, [], length, map, replicate, ap, sym, subst, ◌∙◌, arith}
use Rattle.std.specs.Global.{Vec}
use Rattle.std.specs.Arc.{arc_value}
use Rattle.std.proofs.lemmas.List.{length-map}
use Rattle.jr_cut.specs.Spans.{segment_data, IsSpanOf}
use Rattle.jr_head.specs.HeadValue.{HeadValue}
use Rattle.jr_scan.specs.IntervalValue.{IntervalValue}
use Rattle.jr_scan.specs.ScanValue.{ScanValue, interval_of, intervals_of, mcus_in}
use Rattle.jr_scan.proofs.Scans.{HasSpan, interval_is, its_span, no_span, padded_count}
use Rattle.jr_scan.proofs.scan.Scan.interval.Goals as goal
use Rattle.jr_scan.proofs.scan.Scan.interval.Goals.{then-i-len, else-i-len}

pub mcus_in-requires : goal.mcus_in-requires
mcus_in-requires c =
    let bytes = (arc_value c.self.inside.unstuffed).items in
    let spans = c.self.inside.spans.items in
    let segments = map (segment_data bytes) spans in
    let same : length segments ≡ length spans = length-map spans (segment_data bytes) in
    let count = padded_count segments c.self.inside.intervals (omega (arith, same, c.self.invariant.1)) in
    let all = ap (λ (k : ℕ). length (segments ++ replicate {A = List ℕ} (c.self.inside.intervals - k) [])) (sym same) ∙ count in
    omega (arith, c.requires, all, ap (λ (s : ScanValue). length s.intervals) c.self.view_is, c.self.invariant.2, ap (λ (h : HeadValue). intervals_of h) c.deref.ensures)

pub of-requires-clause-within : goal.of-requires-clause-within
of-requires-clause-within c =
    let bytes = (arc_value c.self.inside.unstuffed).items in
    let spans = c.self.inside.spans.items in
    let n = c.self.inside.intervals - length spans in
    let i = c.args.i in
    let long : c.len.result ≡ length spans = search (rules, arith, c.len.ensures) in
    let span : HasSpan bytes spans n i c.if-i-len.span = elim c.if-i-len.branch [
      | then-i-len w ↦ its_span bytes spans n i c.if-i-len.span w.index-span.result.now c.self.invariant.0 (omega (arith, w.if-i-len.true, long)) (w.span-is ∙ w.index-span.ensures)
      | else-i-len w ↦ no_span bytes spans n i c.if-i-len.span (omega (arith, w.if-i-len.false, long)) w.span-is
    ] in
    subst (λ (v : Vec ℕ). IsSpanOf v.items c.if-i-len.span) (sym c.in_ok-unstuffed.ensures) span.within

pub returns : goal.returns
returns c =
    let bytes = (arc_value c.self.inside.unstuffed).items in
    let spans = c.self.inside.spans.items in
    let n = c.self.inside.intervals - length spans in
    let i = c.args.i in
    let long : c.len.result ≡ length spans = search (rules, arith, c.len.ensures) in
    let span : HasSpan bytes spans n i c.if-i-len.span = elim c.if-i-len.branch [
      | then-i-len w ↦ its_span bytes spans n i c.if-i-len.span w.index-span.result.now c.self.invariant.0 (omega (arith, w.if-i-len.true, long)) (w.span-is ∙ w.index-span.ensures)
      | else-i-len w ↦ no_span bytes spans n i c.if-i-len.span (omega (arith, w.if-i-len.false, long)) w.span-is
    ] in
    let head = arc_value c.self.inside.head in
    let made = c.of.ensures in
    let kept = ap (λ (v : IntervalValue). v.bytes) made ∙ ap (λ (v : Vec ℕ). segment_data v.items c.if-i-len.span) c.in_ok-unstuffed.ensures ∙ span.bytes_are in
    let own : c.mcus_in.result ≡ mcus_in c.deref.result.now i = search (rules, c.mcus_in.ensures.value) in
    let mcus = ap (λ (v : IntervalValue). v.mcus) made ∙ own ∙ ap (λ (h : HeadValue). mcus_in h i) c.deref.ensures in
    interval_is c.of.result i (mcus_in head i) _ head (ap (λ (v : IntervalValue). v.number) made) mcus kept (ap (λ (v : IntervalValue). v.head) made ∙ c.in_ok-head.ensures)
    ∙ ap (λ (s : ScanValue). interval_of s i) c.self.view_is
