use Rattle.std.proofs.Common.{◌≡◌, ◌*◌, ap, rules}
use Rattle.jr_head.specs.Geometry.{vertical_max}
use Rattle.jr_damage.proofs.Rows.{rows_of, lines_are}
use Rattle.jr_damage.proofs.lines.lines_of.Goals as goal

pub returns-clause-lines : goal.returns-clause-lines
returns-clause-lines c =
    let h = c.args.head.now in
    let m = c.mcus_of.result in
    let across = c.mcus_across-across.ensures in
    let high : 8 * c.vertical_max-high.result ≡ 8 * vertical_max h = ap (λ n. 8 * n) c.vertical_max-high.ensures.value in
    let rows = rows_of h c.mcus_across-across.result c.vertical_max-high.result c.height.result m.first m.count across.value across.some c.vertical_max-high.ensures.value c.vertical_max-high.ensures.some c.height.ensures.value c.mcus_of.ensures.some c.mcus_of.ensures.within in
    lines_are h c.args.i m.first m.count c.mcus_across-across.result (8 * c.vertical_max-high.result) c.height.result c.lines_of_rows.result c.mcus_of.ensures.first c.mcus_of.ensures.count across.value high c.height.ensures.value rows (search (rules, c.lines_of_rows.ensures.first)) (search (rules, c.lines_of_rows.ensures.last))
