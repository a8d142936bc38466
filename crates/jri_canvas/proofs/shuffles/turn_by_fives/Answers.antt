use Rattle.std.proofs.Common.{arith, rules}
use Rattle.jri_canvas.specs.declared.layout.Order.TheVariants as order
use Rattle.jri_canvas.proofs.Vectors.{fives_more}
use Rattle.jri_canvas.proofs.shuffles.turn_by_fives.Goals as goal

pub loop-n-preserved : goal.loop-n-preserved
loop-n-preserved c =
    let l = c.loop-n in
    search (rules, fives_more order.Bgr c.args.line.now l.out c.turned.result l.n (search rules) (search (rules, arith)) (search (rules, c.turned.ensures)) l.invariant)
