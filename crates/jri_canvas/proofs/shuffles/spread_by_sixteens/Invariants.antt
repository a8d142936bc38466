use Rattle.std.proofs.Common.{◌≡◌, ◌*◌, take}
use Rattle.jri_canvas.specs.Layouts.{coloured}
use Rattle.jri_canvas.specs.declared.layout.Order.TheVariants as order
use Rattle.jri_canvas.specs.declared.layout.Pixels.TheVariants as pixels
use Rattle.jri_canvas.proofs.shuffles.spread_by_sixteens.Given as goal

abbrev pub invariant-loop-n : goal.invariant-loop-n
invariant-loop-n l = take (4 * (16 * l.n)) l.out ≡ coloured order.Rgbx pixels.Grey l.line (16 * l.n)
