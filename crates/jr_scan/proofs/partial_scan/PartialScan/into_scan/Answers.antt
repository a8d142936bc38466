use Rattle.std.proofs.Common.{length, ap, arith}
use Rattle.std.proofs.lemmas.List.{length-map}
use Rattle.jr_cut.specs.Spans.{segment_data}
use Rattle.jr_scan.proofs.partial_scan.PartialScan.into_scan.Goals as goal

pub of_segments-requires-clause-count : goal.of_segments-requires-clause-count
of_segments-requires-clause-count c =
    let p = c.in_ok-into_segments.field-0 in
    omega (arith, ap length c.in_ok-into_segments.ensures.segments, length-map p.spans.items (segment_data p.unstuffed.items), c.self.invariant.0, c.self.invariant.1)
