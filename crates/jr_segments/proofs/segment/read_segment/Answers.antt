-- The exits: the tests before passed, and the one that failed is the first.
use Rattle.std.proofs.lemmas.Result.{err_from_is_err_and}
use Rattle.jr_segments.proofs.FramingLaws.{at_marker, at_its_code, at_its_length}
use Rattle.jr_segments.proofs.segment.read_segment.Goals as goal

pub returns-in_err-code-clause-obeys : goal.returns-in_err-code-clause-obeys
returns-in_err-code-clause-obeys c =
    let p = err_from_is_err_and c.from_residual.result c.from_residual.ensures.1 in
    rw (p.1, p.2) (at_marker c.args.framed c.args.at c.args.bytes.now c.in_err-code.field-0.0 c.in_err-code.ensures.obeys)

pub returns-in_err-marker-clause-obeys : goal.returns-in_err-marker-clause-obeys
returns-in_err-marker-clause-obeys c =
    let p = err_from_is_err_and c.from_residual-in_err-marker.result c.from_residual-in_err-marker.ensures.1 in
    let ok = c.in_ok-code.ensures in
    rw (p.1, p.2) (at_its_code c.args.framed c.args.at c.args.bytes.now c.in_err-marker.field-0.0 c.in_ok-code.code ok.read.0 ok.obeys c.in_err-marker.ensures.obeys)

pub returns-in_err-payload-clause-obeys : goal.returns-in_err-payload-clause-obeys
returns-in_err-payload-clause-obeys c =
    let p = err_from_is_err_and c.from_residual-in_err-payload.result c.from_residual-in_err-payload.ensures.1 in
    let ok = c.in_ok-code.ensures in
    rw (p.1, p.2)
    (at_its_length c.args.framed c.args.at c.args.bytes.now c.in_err-payload.field-0.0 c.in_ok-code.code c.in_ok-code.body.now ok.read.0 ok.read.1 ok.obeys c.in_ok-marker.ensures.obeys
    c.in_err-payload.ensures.obeys)
