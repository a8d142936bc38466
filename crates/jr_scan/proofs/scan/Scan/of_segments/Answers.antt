use Rattle.std.proofs.Common.{◌≡◌, ℕ, List, length, subst, sym, ap, ◌∙◌, arith}
use Rattle.std.specs.Global.{Vec}
use Rattle.std.specs.List.{All}
use Rattle.std.specs.Arc.{arc_value}
use Rattle.jr_scan.specs.ScanValue.{intervals_of}
use Rattle.jr_cut.specs.Spans.{IsSpanOf}
use Rattle.jr_scan.proofs.Scans.{kept_scan}
use Rattle.jr_scan.proofs.scan.Scan.of_segments.Goals as goal

pub invariant_of-result : goal.invariant_of-result
invariant_of-result c =
    let e : (arc_value c.in_ok-new-2.field-0).items ≡ c.args.segments.unstuffed.items = ap (λ (v : Vec ℕ). v.items) c.in_ok-new-2.ensures.ok in (
      subst (λ (x : List ℕ). All (IsSpanOf x) c.args.segments.spans.items) (sym e) c.requires.within,
      omega (arith, c.requires.count, c.intervals-intervals.ensures.value),
      c.intervals-intervals.ensures.value ∙ ap intervals_of (sym c.in_ok-new.ensures.ok),
      c.intervals-intervals.ensures.some,
      omega (arith, ap length e, c.requires.few),
    )

pub returns : goal.returns
returns c = kept_scan _ _ _ _ _ _ _ c.in_ok-new.ensures.ok (ap (λ (v : Vec ℕ). v.items) c.in_ok-new-2.ensures.ok) c.intervals-intervals.ensures.value
