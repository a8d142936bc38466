use Rattle.std.proofs.Common.{◌≡◌, ◌+◌, ◌≤◌, arith, rules}
use Rattle.jr_arrival.specs.Places.{rows_with_space}
use Rattle.jr_arrival.proofs.RowLines.{fits}
use Rattle.jr_arrival.proofs.rows.end_of_rows.Goals as goal

pub returns-clause-fits : goal.returns-clause-fits
returns-clause-fits c to few =
    let h = c.args.head.now in
    let n : c.rows_with_space.result ≡ rows_with_space h c.args.row c.args.bytes = c.rows_with_space.ensures.value in
    let less : to ≤ c.args.row + rows_with_space h c.args.row c.args.bytes = search (rules, arith, few, n) in
    fits h c.assert_invariant.ensures.components.down c.args.row c.args.bytes c.requires to less
