use Rattle.std.proofs.Common.{rules, arith, ◌+◌, ◌*◌, ◌%◌, ◌<◌, ◌≤◌, ◌^◌}
use Rattle.std.proofs.lemmas.Nat.{mod_below, mul-le}
use Rattle.jr_rows.proofs.band.Band.start.Goals as goal

pub overflow_mul-result : goal.overflow_mul-result
overflow_mul-result c =
    let deep = 8 * c.vertical.result in
    let line = c.lines_before_component.result + c.args.y % deep in
    let inside : c.args.y % deep < deep = mod_below c.args.y deep (omega (arith, c.vertical.ensures.some)) in
    let few : line ≤ 160 = search (rules, arith, inside) in
    let most = mul-le line c.groups_across.result 160 (2 ^ 18) few (omega (arith, c.groups_across.ensures.few)) in
    search (rules, arith, most)

pub overflow_mul-result-2 : goal.overflow_mul-result-2
overflow_mul-result-2 c =
    let deep = 8 * c.vertical.result in
    let line = c.lines_before_component.result + c.args.y % deep in
    let inside : c.args.y % deep < deep = mod_below c.args.y deep (omega (arith, c.vertical.ensures.some)) in
    let few : line ≤ 160 = search (rules, arith, inside) in
    let most = mul-le line c.groups_across.result 160 (2 ^ 18) few (omega (arith, c.groups_across.ensures.few)) in
    search (rules, arith, most)
