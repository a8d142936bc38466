use Rattle.std.proofs.Common.{rules}
use Rattle.jr_arrival.proofs.RowLines.{lines_before_is}
use Rattle.jr_arrival.proofs.rows.lines_before.Goals as goal

pub returns-clause-value : goal.returns-clause-value
returns-clause-value c =
    let h = c.args.head.now in
    search (rules, lines_before_is h c.assert_invariant.ensures.components.down c.args.row)
