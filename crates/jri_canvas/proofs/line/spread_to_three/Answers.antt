use Rattle.std.proofs.Common.{arith, refl, rules, slice_index}
use Rattle.jri_canvas.specs.Layouts.{laid_pixel}
use Rattle.jri_canvas.specs.declared.layout.Order.TheVariants as order
use Rattle.jri_canvas.specs.declared.layout.Pixels.TheVariants as pixels
use Rattle.jri_canvas.proofs.MorePixels.{three_more}
use Rattle.jri_canvas.proofs.line.spread_to_three.Goals as goal

pub loop-x-preserved : goal.loop-x-preserved
loop-x-preserved c =
    let line = slice_index c.args.line.now in
    let i = c.loop-x.x in
    search (rules, three_more (laid_pixel order.Rgb pixels.Grey c.args.line.now) i c.loop-x.out (line i) (line i) (line i) (omega arith) refl c.loop-x.invariant)
