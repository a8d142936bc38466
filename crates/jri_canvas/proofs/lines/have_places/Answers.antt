use Rattle.std.proofs.Common.{rules, arith, ◌-◌}
use Rattle.std.proofs.Math.Nat.{le-div_iff_mul-le}
use Rattle.jri_canvas.proofs.lines.have_places.Goals as goal

pub returns-then-size-space-clause-not_there : goal.returns-then-size-space-clause-not_there
returns-then-size-space-clause-not_there c b all =
    let last = all (c.args.count - 1) (omega arith) (search (rules, arith)) in
    let few = (le-div_iff_mul-le {k = c.args.form.now.stride} {x = c.args.count - 1} {y = c.args.space - c.bytes-size.result} c.requires).1 (search (rules, arith, last)) in
    search (rules, arith, few, b)
