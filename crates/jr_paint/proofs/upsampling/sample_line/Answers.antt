use Rattle.jr_paint.proofs.Factors.{scaled_below}
use Rattle.std.proofs.Common.{arith}
use Rattle.std.proofs.lemmas.Nat.{mul-le}
use Rattle.jr_paint.proofs.upsampling.sample_line.Goals as goal

pub returns-clause-inside : goal.returns-clause-inside
returns-clause-inside c =
    let n = c.vertical.ensures in
    let m = c.vertical_max.ensures in
    rw (← n.value, ← m.value) (scaled_below c.args.y c.args.head.now.height c.vertical.result c.vertical_max.result n.some m.some c.requires.down)

pub overflow_mul-result : goal.overflow_mul-result
overflow_mul-result c =
    let small = mul-le c.args.y c.vertical.result 65536 4 (omega (arith, c.requires.down, c.requires.valid.low)) c.vertical.ensures.few in
    omega (arith, small)
