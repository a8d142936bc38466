use Rattle.std.proofs.Common.{rules, arith, ◌≡◌, ◌*◌, ◌<◌}
use Rattle.jr_head.specs.Geometry.{vertical_max}
use Rattle.jr_paint.proofs.Places.{below_div_ceil}
use Rattle.jr_rows.proofs.shape.lines_of.Goals as goal

pub overflow_mul-first : goal.overflow_mul-first
overflow_mul-first c =
    let h = c.args.head.now in
    let some : 0 < 8 * vertical_max h = search (rules, arith) in
    let below = below_div_ceil c.args.row h.height (8 * vertical_max h) some c.requires in
    let is : c.vertical_max-deep.result ≡ vertical_max h = search rules in
    let low : h.height < 65536 = search (rules, arith) in
    rw is (omega (arith, below, low))
