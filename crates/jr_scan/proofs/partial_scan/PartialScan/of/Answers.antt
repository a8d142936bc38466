use Rattle.std.proofs.Common.{rules, ◌≡◌, ℕ, List, length, drop, length-drop, ap, subst, ◌∙◌, arith}
use Rattle.jr_cut.specs.PartialCut.{HasCut}
use Rattle.jr_scan.proofs.Scans.{has_come}
use Rattle.jr_scan.proofs.partial_scan.PartialScan.of.Goals as goal

pub returns-clause-come : goal.returns-clause-come
returns-clause-come c =
    let h = c.args.head in
    let cut = c.in_ok-cut.cut in
    let rest : c.of-scan.result.rest ≡ drop h.scan_at c.args.bytes.items = c.of-scan.ensures.rest ∙ ap (λ (k : ℕ). drop k c.args.bytes.items) c.scan_at-start.ensures.value in
    let has : HasCut h.scan_at (drop h.scan_at c.args.bytes.items) cut = subst (λ (k : ℕ). HasCut k (drop h.scan_at c.args.bytes.items) cut) c.scan_at-start.ensures.value (subst (λ (x : List ℕ). HasCut c.scan_at-start.result x cut) rest (search (rules, c.in_ok-cut.ensures.cut))) in
    has_come h cut c.args.bytes.items (c.in_ok-cut.ensures.intervals ∙ c.intervals.ensures.value) c.requires.starts
    (omega (arith, c.in_ok-cut.ensures.all, ap length rest, length-drop h.scan_at c.args.bytes.items, c.requires.starts, c.scan_at-start.ensures.value)) has

pub of-requires-clause-fits : goal.of-requires-clause-fits
of-requires-clause-fits c = omega (arith, c.scan_at-start.ensures.few, ap length c.of-scan.ensures.rest, length-drop c.scan_at-start.result c.args.bytes.items, c.requires.few)

pub invariant_of-result : goal.invariant_of-result
invariant_of-result c =
    let e = c.in_ok-cut.ensures in (
      e.intervals ∙ c.intervals.ensures.value,
      e.count,
      omega (arith, e.data),
      omega (arith, e.all, ap length c.of-scan.ensures.rest, length-drop c.scan_at-start.result c.args.bytes.items, c.requires.few, c.requires.starts, c.scan_at-start.ensures.value),
    )
