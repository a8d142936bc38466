use Rattle.std.proofs.Common.{◌≡◌, ℕ, List, map, drop, sym, subst, arith}
use Rattle.std.proofs.lemmas.List.{length-map}
use Rattle.std.proofs.lemmas.Result.{IfOk-weaker}
use Rattle.jr_cut.specs.Spans.{segment_data}
use Rattle.jr_scan.specs.ScanValue.{ScanValue, scan_of_segments, IsScanOf}
use Rattle.jr_scan.proofs.Scans.{cut_few, is_scan}
use Rattle.jr_scan.proofs.scan.Scan.of.Goals as goal

pub returns-clause-cut : goal.returns-clause-cut
returns-clause-cut c =
    let h = c.args.head in
    let p = c.in_ok-segments.segments in
    let segments = map (segment_data p.unstuffed.items) p.spans.items in
    IfOk-weaker c.of_segments.result (λ (s : ScanValue). s ≡ scan_of_segments h segments p.ended) (λ (s : ScanValue). (file : List ℕ) → c.args.scan.rest ≡ drop h.scan_at file → IsScanOf file s)
    (λ s e file is. subst (IsScanOf file) (sym e) (is_scan h file c.args.scan.rest segments _ _ p.ended c.intervals.ensures.value c.scan_at.ensures.value is c.in_ok-segments.ensures.cut)) c.of_segments.ensures

pub of_segments-requires-clause-count : goal.of_segments-requires-clause-count
of_segments-requires-clause-count c =
    let p = c.in_ok-segments.segments in
    let few = cut_few c.intervals.result c.scan_at.result c.args.scan.rest (map (segment_data p.unstuffed.items) p.spans.items) p.ended c.in_ok-segments.ensures.cut in
    omega (arith, few, length-map p.spans.items (segment_data p.unstuffed.items), c.intervals.ensures.value)
