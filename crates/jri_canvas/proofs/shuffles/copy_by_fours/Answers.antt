use Rattle.std.proofs.Common.{arith, rules}
use Rattle.jri_canvas.specs.declared.layout.Order.TheVariants as order
use Rattle.jri_canvas.proofs.Vectors.{fours_more}
use Rattle.jri_canvas.proofs.shuffles.copy_by_fours.Goals as goal

pub loop-n-preserved : goal.loop-n-preserved
loop-n-preserved c =
    let l = c.loop-n in
    search (rules, fours_more order.Rgbx c.args.line.now l.out c.with_fourth.result l.n (search rules) (search (rules, arith)) (search (rules, c.with_fourth.ensures)) l.invariant)
