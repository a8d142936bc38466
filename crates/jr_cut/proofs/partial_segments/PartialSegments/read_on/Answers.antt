use Rattle.std.proofs.Common.{rules, length, sym, subst}
use Rattle.jr_cut.specs.Cut.{IsEnding}
use Rattle.jr_cut.specs.PartialCut.{HasCut}
use Rattle.jr_cut.specs.PartialSegments.{cut_of}
use Rattle.jr_cut.specs.UnstuffingValue.{UnstuffingValue}
use Rattle.jr_cut.specs.ImageEnd.{HasCutToRest}
use Rattle.jr_cut.proofs.PartialSegments.{cut_made, rest_made}
use Rattle.jr_cut.proofs.partial_segments.PartialSegments.read_on.Goals as goal

pub returns-in-End-clause-cut : goal.returns-in-End-clause-cut
returns-in-End-clause-cut c =
    let o = c.grow.new.self in
    let end = c.in-End.ended in
    let ends : IsEnding o.intervals (length o.spans.items) o.at o.bytes.rest end = search (rules, c.in-End.ensures, c.rest.ensures, c.len-k.ensures, c.fill-fill.ensures.same) in
    λ start bytes h.
    subst (λ (b : UnstuffingValue). HasCut start bytes (cut_of (record { bytes = b; spans = o.spans; begin = o.begin; intervals = o.intervals; at = o.at }) end)) (sym c.fill-fill.ensures.same)
    (cut_made start bytes o end c.grow.ensures.is (c.grow.ensures.all.read start bytes (c.segments.invariant.1.read start bytes h)) ends)

pub returns-in-End-clause-rest : goal.returns-in-End-clause-rest
returns-in-End-clause-rest c =
    let o = c.grow.new.self in
    let end = c.in-End.ended in
    let ends : IsEnding o.intervals (length o.spans.items) o.at o.bytes.rest end = search (rules, c.in-End.ensures, c.rest.ensures, c.len-k.ensures, c.fill-fill.ensures.same) in
    λ start bytes h.
    subst (λ (b : UnstuffingValue). HasCutToRest start bytes (cut_of (record { bytes = b; spans = o.spans; begin = o.begin; intervals = o.intervals; at = o.at }) end)) (sym c.fill-fill.ensures.same)
    (rest_made start bytes o end c.grow.ensures.is (c.grow.ensures.all.read start bytes (c.segments.invariant.1.read start bytes h)) ends)
