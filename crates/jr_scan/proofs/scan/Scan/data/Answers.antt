use Rattle.std.proofs.Common.{rules, ◌≡◌, ℕ, ◌-◌, List, [], get_or, length, take, drop, ap, ◌∙◌, arith}
use Rattle.std.specs.Global.{Vec}
use Rattle.std.proofs.lemmas.List.{length-take}
use Rattle.std.specs.Arc.{arc_value}
use Rattle.jr_scan.specs.ScanValue.{ScanValue}
use Rattle.jr_scan.proofs.Scans.{HasSpan, its_span, no_span}
use Rattle.jr_scan.proofs.scan.Scan.data.Goals as goal
use Rattle.jr_scan.proofs.scan.Scan.data.Goals.{then-i-len, else-i-len}

pub slice_bounds-result-count : goal.slice_bounds-result-count
slice_bounds-result-count c =
    let bytes = (arc_value c.self.inside.unstuffed).items in
    let spans = c.self.inside.spans.items in
    let n = c.self.inside.intervals - length spans in
    let i = c.args.i in
    let long : c.len.result ≡ length spans = search (rules, arith, c.len.ensures) in
    let span : HasSpan bytes spans n i c.if-i-len.span = elim c.if-i-len.branch [
      | then-i-len w ↦ its_span bytes spans n i c.if-i-len.span w.index-span.result.now c.self.invariant.0 (omega (arith, w.if-i-len.true, long)) (w.span-is ∙ w.index-span.ensures)
      | else-i-len w ↦ no_span bytes spans n i c.if-i-len.span (omega (arith, w.if-i-len.false, long)) w.span-is
    ] in
    span.within.0

pub slice_bounds-result-start : goal.slice_bounds-result-start
slice_bounds-result-start c =
    let bytes = (arc_value c.self.inside.unstuffed).items in
    let spans = c.self.inside.spans.items in
    let n = c.self.inside.intervals - length spans in
    let i = c.args.i in
    let long : c.len.result ≡ length spans = search (rules, arith, c.len.ensures) in
    let span : HasSpan bytes spans n i c.if-i-len.span = elim c.if-i-len.branch [
      | then-i-len w ↦ its_span bytes spans n i c.if-i-len.span w.index-span.result.now c.self.invariant.0 (omega (arith, w.if-i-len.true, long)) (w.span-is ∙ w.index-span.ensures)
      | else-i-len w ↦ no_span bytes spans n i c.if-i-len.span (omega (arith, w.if-i-len.false, long)) w.span-is
    ] in
    omega (arith, span.within.0, span.within.1, ap length c.deref-2.ensures.value, ap (λ (v : Vec ℕ). length v.items) c.deref.ensures)

pub slice_bounds-result-end : goal.slice_bounds-result-end
slice_bounds-result-end c =
    let bytes = (arc_value c.self.inside.unstuffed).items in
    let spans = c.self.inside.spans.items in
    let n = c.self.inside.intervals - length spans in
    let i = c.args.i in
    let long : c.len.result ≡ length spans = search (rules, arith, c.len.ensures) in
    let span : HasSpan bytes spans n i c.if-i-len.span = elim c.if-i-len.branch [
      | then-i-len w ↦ its_span bytes spans n i c.if-i-len.span w.index-span.result.now c.self.invariant.0 (omega (arith, w.if-i-len.true, long)) (w.span-is ∙ w.index-span.ensures)
      | else-i-len w ↦ no_span bytes spans n i c.if-i-len.span (omega (arith, w.if-i-len.false, long)) w.span-is
    ] in
    omega (arith, span.within.1, ap length c.deref-2.ensures.value, ap (λ (v : Vec ℕ). length v.items) c.deref.ensures)

pub returns-clause-bytes : goal.returns-clause-bytes
returns-clause-bytes c =
    let bytes = (arc_value c.self.inside.unstuffed).items in
    let spans = c.self.inside.spans.items in
    let n = c.self.inside.intervals - length spans in
    let i = c.args.i in
    let long : c.len.result ≡ length spans = search (rules, arith, c.len.ensures) in
    let span : HasSpan bytes spans n i c.if-i-len.span = elim c.if-i-len.branch [
      | then-i-len w ↦ its_span bytes spans n i c.if-i-len.span w.index-span.result.now c.self.invariant.0 (omega (arith, w.if-i-len.true, long)) (w.span-is ∙ w.index-span.ensures)
      | else-i-len w ↦ no_span bytes spans n i c.if-i-len.span (omega (arith, w.if-i-len.false, long)) w.span-is
    ] in
    let same : c.deref-2.result.now ≡ bytes = c.deref-2.ensures.value ∙ ap (λ (v : Vec ℕ). v.items) c.deref.ensures in
    ap (λ (b : List ℕ). take (c.if-i-len.span.end - c.if-i-len.span.start) (drop c.if-i-len.span.start b)) same ∙ span.bytes_are ∙ ap (λ (s : ScanValue). get_or s.intervals i []) c.self.view_is

pub returns-clause-few : goal.returns-clause-few
returns-clause-few c =
    let bytes = (arc_value c.self.inside.unstuffed).items in
    let spans = c.self.inside.spans.items in
    let n = c.self.inside.intervals - length spans in
    let i = c.args.i in
    let long : c.len.result ≡ length spans = search (rules, arith, c.len.ensures) in
    let span : HasSpan bytes spans n i c.if-i-len.span = elim c.if-i-len.branch [
      | then-i-len w ↦ its_span bytes spans n i c.if-i-len.span w.index-span.result.now c.self.invariant.0 (omega (arith, w.if-i-len.true, long)) (w.span-is ∙ w.index-span.ensures)
      | else-i-len w ↦ no_span bytes spans n i c.if-i-len.span (omega (arith, w.if-i-len.false, long)) w.span-is
    ] in
    let there = drop c.if-i-len.span.start c.deref-2.result.now in
    let size = c.if-i-len.span.end - c.if-i-len.span.start in
    omega (arith, span.within.1, length-take size there, c.self.invariant.4)
