use Rattle.std.proofs.Common.{◌≡◌, ◌+◌, ◌*◌, ◌∙◌, length, arith}
use Rattle.jr_segments.specs.Bytes.{byte}
use Rattle.jr_head.proofs.AcceptedLaws.{selectors_count}
use Rattle.jr_head.proofs.scan.read_header.Goals as goal

pub returns-clause-paired : goal.returns-clause-paired
returns-clause-paired c =
    let p = c.args.payload.now in
    let long : length p ≡ 4 + 2 * byte 0 p = omega arith in
    let count : byte 0 p ≡ length c.args.frame.now.components.items = omega arith in
    selectors_count p long ∙ count
