use Rattle.std.proofs.Common.{◌*◌, arith}
use Rattle.jr_paint.proofs.Along.{spot_inside}
use Rattle.std.proofs.Math.Nat.{div-le_self}
use Rattle.jr_paint.proofs.Factors.{samples_across-le, samples_down-le}
use Rattle.jr_paint.proofs.geometry.place.Goals as goal

pub returns-clause-mcu : goal.returns-clause-mcu
returns-clause-mcu c =
    let there = spot_inside c.args.head.now c.args.c c.args.x c.args.y c.assert_invariant.ensures c.requires.component c.requires.column c.requires.line in
    rw (c.mcu_number-mcu.ensures, c.mcus_across.ensures.value, c.horizontal-across.ensures.value, c.vertical-down.ensures.value) there.mcu

pub returns-clause-block : goal.returns-clause-block
returns-clause-block c =
    let there = spot_inside c.args.head.now c.args.c c.args.x c.args.y c.assert_invariant.ensures c.requires.component c.requires.column c.requires.line in
    rw (c.earlier_blocks.ensures.value, c.horizontal-across.ensures.value, c.vertical-down.ensures.value) there.block

pub mcu_number-mcu-requires-clause-column : goal.mcu_number-mcu-requires-clause-column
mcu_number-mcu-requires-clause-column c =
    let h = c.args.head.now in
    let across = samples_across-le h c.args.c c.assert_invariant.ensures c.requires.component in
    let low = div-le_self c.args.x (8 * c.horizontal-across.result) in
    omega (arith, across, low, c.requires.column, c.assert_invariant.ensures.narrow)

pub mcu_number-mcu-requires-clause-line : goal.mcu_number-mcu-requires-clause-line
mcu_number-mcu-requires-clause-line c =
    let h = c.args.head.now in
    let down = samples_down-le h c.args.c c.assert_invariant.ensures c.requires.component in
    let low = div-le_self c.args.y (8 * c.vertical-down.result) in
    omega (arith, down, low, c.requires.line, c.assert_invariant.ensures.low)
