use Rattle.std.proofs.Common.{◌≡◌, ◌≤◌, ℕ, List, length, length-drop, drop, map, ap, ◌∙◌, subst, sym, arith, rules}
use Rattle.std.proofs.lemmas.List.{length-map}
use Rattle.jr_cut.specs.Spans.{segment_data}
use Rattle.jr_scan.specs.ImageEnd.{IsImageEndIn}
use Rattle.jr_scan.specs.ScanValue.{ScanValue, IsScanOf}
use Rattle.jr_scan.proofs.CutScans.{is_image_end}
use Rattle.jr_scan.proofs.Scans.{cut_few, is_scan}
use Rattle.jr_scan.proofs.cut_scan.CutScan.cut_in_place.Goals as goal

pub cut_to_end-requires-clause-unread : goal.cut_to_end-requires-clause-unread
cut_to_end-requires-clause-unread c = c.of-scan.ensures.data

pub returns-clause-cut : goal.returns-clause-cut
returns-clause-cut c =
    let p = c.in_ok-cut.cut.segments in
    let segments = map (segment_data p.unstuffed.items) p.spans.items in
    let rest : c.of-scan.result.rest ≡ drop c.args.head.scan_at c.args.bytes.items = c.of-scan.ensures.rest ∙ ap (λ (k : ℕ). drop k c.args.bytes.items) c.scan_at-at.ensures.value in
    subst (λ (s : ScanValue). IsScanOf c.args.bytes.items s) (sym c.in_ok-scan.ensures) (is_scan c.args.head c.args.bytes.items c.of-scan.result.rest segments _ _ p.ended c.intervals.ensures.value c.scan_at-at.ensures.value rest c.in_ok-cut.ensures.cut)

pub returns-clause-image_end : goal.returns-clause-image_end
returns-clause-image_end c =
    let p = c.in_ok-cut.cut.segments in
    let place = c.in_ok-cut.cut.image_end in
    let segments = map (segment_data p.unstuffed.items) p.spans.items in
    let rest : c.of-scan.result.rest ≡ drop c.args.head.scan_at c.args.bytes.items = c.of-scan.ensures.rest ∙ ap (λ (k : ℕ). drop k c.args.bytes.items) c.scan_at-at.ensures.value in
    let stated = subst (λ (s : ScanValue). IsImageEndIn c.args.bytes.items s place) (sym c.in_ok-scan.ensures) (is_image_end c.args.head c.args.bytes.items c.of-scan.result.rest segments _ _ p.ended place c.intervals.ensures.value c.scan_at-at.ensures.value rest c.in_ok-cut.ensures.image_end) in
    search (rules, stated)

pub of_segments-requires-clause-count : goal.of_segments-requires-clause-count
of_segments-requires-clause-count c =
    let p = c.in_ok-cut.cut.segments in
    let few = cut_few _ _ _ _ _ c.in_ok-cut.ensures.cut in
    let all = subst (λ (k : ℕ). k ≤ c.intervals.result) (length-map p.spans.items (segment_data p.unstuffed.items)) few in
    subst (λ (k : ℕ). length p.spans.items ≤ k) c.intervals.ensures.value all

pub of_segments-requires-clause-few : goal.of_segments-requires-clause-few
of_segments-requires-clause-few c = omega (arith, c.in_ok-cut.ensures.few, c.requires, ap length c.of-scan.ensures.rest, length-drop c.scan_at-at.result c.args.bytes.items)
