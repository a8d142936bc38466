use Rattle.std.proofs.Common.{◌≡◌, ◌*◌, take}
use Rattle.jri_canvas.specs.Layouts.{coloured}
use Rattle.jri_canvas.specs.declared.layout.Order.TheVariants as order
use Rattle.jri_canvas.specs.declared.layout.Pixels.TheVariants as pixels
use Rattle.jri_canvas.proofs.shuffles.turn_by_fives.Given as goal

abbrev pub invariant-loop-n : goal.invariant-loop-n
invariant-loop-n l = take (3 * (5 * l.n)) l.out ≡ coloured order.Bgr pixels.Colour l.line (5 * l.n)
