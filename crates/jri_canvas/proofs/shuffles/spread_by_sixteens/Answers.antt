use Rattle.std.proofs.Common.{arith, rules}
use Rattle.jri_canvas.specs.declared.layout.Order.TheVariants as order
use Rattle.jri_canvas.proofs.Vectors.{sixteens_more}
use Rattle.jri_canvas.proofs.shuffles.spread_by_sixteens.Goals as goal

pub loop-n-preserved : goal.loop-n-preserved
loop-n-preserved c =
    let l = c.loop-n in
    search (rules, sixteens_more order.Rgbx c.args.line.now l.out c.spread_with_fourth.result l.n (search rules) (search (rules, arith)) (search (rules, c.spread_with_fourth.ensures)) l.invariant)
