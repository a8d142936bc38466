use Rattle.std.proofs.Common.{rules}
use Rattle.jr_rows.proofs.ShownUnits.{black}
use Rattle.jr_rows.proofs.blank.blank_unit.Goals as goal

pub returns : goal.returns
returns c =
    let black = black c.args.head.now c.args.j c.requires in
    search (rules, black)
