use Rattle.std.proofs.Common.{rules, arith, ap, ◌≡◌, ◌∙◌, pos, neg_ℤ, ◌-ℤ◌, w32, to_z, of_z, FitsSigned}
use Rattle.std.proofs.Math.IntN.{◌*ℤ◌}
use Rattle.std.proofs.lemmas.Int.{ints}
use Rattle.jr_paint.specs.Colours.{shade, off}
use Rattle.jr_paint.proofs.Passed.{product_passed, products_passed}
use Rattle.jr_paint.proofs.colours.mixed.Goals as goal

pub returns : goal.returns
returns c =
    let b = c.off_of-b.result in
    let r = c.off_of-r.result in
    let sb = c.off_of-b.ensures.small in
    let sr = c.off_of-r.ensures.small in
    let fb : FitsSigned w32 b = omega (arith, ints) in
    let fr : FitsSigned w32 r = omega (arith, ints) in
    let f1 : FitsSigned w32 (pos 91881 *ℤ r) = omega (arith, ints) in
    let f2 : FitsSigned w32 (neg_ℤ (pos 22554) *ℤ b) = omega (arith, ints) in
    let f3 : FitsSigned w32 (pos 46802 *ℤ r) = omega (arith, ints) in
    let f4 : FitsSigned w32 (neg_ℤ (pos 22554) *ℤ b -ℤ pos 46802 *ℤ r) = omega (arith, ints) in
    let f5 : FitsSigned w32 (pos 116130 *ℤ b) = omega (arith, ints) in
    let given : c.channel-red.result ≡ shade c.args.y (to_z w32 (of_z w32 (pos 91881 *ℤ to_z w32 (of_z w32 r)))) = search (rules, c.channel-red.ensures) in
    let red = given ∙ ap (shade c.args.y) (product_passed (pos 91881) r (off c.args.cr) fr f1 c.off_of-r.ensures.value) in
    let stated : c.channel-green.result ≡ shade c.args.y (to_z w32 (of_z w32 (to_z w32 (of_z w32 (neg_ℤ (pos 22554) *ℤ to_z w32 (of_z w32 b))) -ℤ to_z w32 (of_z w32 (pos 46802 *ℤ to_z w32 (of_z w32 r)))))) = search (rules, c.channel-green.ensures) in
    let green = stated ∙ ap (shade c.args.y) (products_passed (neg_ℤ (pos 22554)) (pos 46802) b r (off c.args.cb) (off c.args.cr) fb fr f2 f3 f4 c.off_of-b.ensures.value c.off_of-r.ensures.value) in
    let blue = c.channel-blue.ensures ∙ ap (shade c.args.y) (product_passed (pos 116130) b (off c.args.cb) fb f5 c.off_of-b.ensures.value) in
    rw (red, green, blue) (search rules)
