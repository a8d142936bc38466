use Rattle.std.proofs.Common.{◌≡◌, ◌*◌, take}
use Rattle.jri_canvas.specs.Layouts.{coloured}
use Rattle.jri_canvas.specs.declared.layout.Order.TheVariants as order
use Rattle.jri_canvas.specs.declared.layout.Pixels.TheVariants as pixels
use Rattle.jri_canvas.proofs.shuffles.copy_by_fours.Given as goal

abbrev pub invariant-loop-n : goal.invariant-loop-n
invariant-loop-n l = take (4 * (4 * l.n)) l.out ≡ coloured order.Rgbx pixels.Colour l.line (4 * l.n)
