use Rattle.std.proofs.Common.{◌+◌, arith, rules}
use Rattle.jr_arrival.specs.Places.{rows_with_space}
use Rattle.jr_arrival.proofs.RowLines.{space_few, fits}
use Rattle.jr_arrival.proofs.rows.rows_with_space.Goals as goal

pub returns-then-lines-left-clause-fits : goal.returns-then-lines-left-clause-fits
returns-then-lines-left-clause-fits c =
    let h = c.args.head.now in
    let some = c.assert_invariant.ensures.components.down in
    search (rules, fits h some c.args.row c.args.bytes c.requires (c.args.row + rows_with_space h c.args.row c.args.bytes) (omega arith))

pub returns-clause-few : goal.returns-clause-few
returns-clause-few c =
    let h = c.args.head.now in
    let some = c.assert_invariant.ensures.components.down in
    search (rules, space_few h some c.args.row c.args.bytes c.requires)

pub returns-clause-fits : goal.returns-clause-fits
returns-clause-fits c =
    let h = c.args.head.now in
    let some = c.assert_invariant.ensures.components.down in
    search (rules, fits h some c.args.row c.args.bytes c.requires (c.args.row + rows_with_space h c.args.row c.args.bytes) (omega arith))
