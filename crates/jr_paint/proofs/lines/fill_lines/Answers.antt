use Rattle.std.proofs.Common.{◌≡◌, rules, arith}
use Rattle.jr_paint.proofs.lines.fill_lines.Goals as goal

pub returns-in-Ycc : goal.returns-in-Ycc
returns-in-Ycc g c =
    let one : c.args.count ≡ 1 = search (rules, arith) in
    rw one (search (rules, c.fill_halved.ensures))

pub returns-in-Rgb : goal.returns-in-Rgb
returns-in-Rgb g c =
    let one : c.args.count ≡ 1 = search (rules, arith) in
    rw one (search (rules, c.fill_colours.ensures))

pub returns-in-Grey : goal.returns-in-Grey
returns-in-Grey g c =
    let one : c.args.count ≡ 1 = search (rules, arith) in
    rw one (search (rules, c.fill_grey.ensures))
