use Rattle.std.proofs.Common.{◌≡◌, ◌*◌, take}
use Rattle.jri_canvas.specs.Layouts.{coloured}
use Rattle.jri_canvas.specs.declared.layout.Order.TheVariants as order
use Rattle.jri_canvas.specs.declared.layout.Pixels.TheVariants as pixels
use Rattle.jri_canvas.proofs.line.turn_rest.Given as goal

abbrev pub invariant-loop-x : goal.invariant-loop-x
invariant-loop-x l = take (3 * l.x) l.out ≡ coloured order.Bgr pixels.Colour l.line l.x
