use Rattle.std.proofs.Common.{◌≡◌, ◌*◌, take}
use Rattle.jri_canvas.specs.Layouts.{coloured}
use Rattle.jri_canvas.specs.declared.layout.Order.TheVariants as order
use Rattle.jri_canvas.specs.declared.layout.Pixels.TheVariants as pixels
use Rattle.jri_canvas.proofs.line.spread_rest_to_four.Given as goal

abbrev pub invariant-loop-x : goal.invariant-loop-x
invariant-loop-x l = take (4 * l.x) l.out ≡ coloured order.Rgbx pixels.Grey l.line l.x
