use Rattle.std.proofs.Common.{arith}
use Rattle.std.proofs.lemmas.Nat.{mul-le}
use Rattle.jr_paint.proofs.Factors.{blocks_before_few}
use Rattle.jr_paint.proofs.geometry.earlier_blocks.Goals as goal

pub overflow_add-sum : goal.overflow_add-sum
overflow_add-sum c =
    let small = mul-le c.horizontal.result c.vertical.result 4 4 c.horizontal.ensures.few c.vertical.ensures.few in
    let before = blocks_before_few c.args.head.now c.loop-j.j c.requires.valid (omega (arith, c.requires.component)) in
    omega (arith, small, before, c.loop-j.invariant)
