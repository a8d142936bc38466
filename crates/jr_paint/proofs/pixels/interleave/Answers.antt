use Rattle.std.proofs.Common.{rules, refl, arith, slice_index, ◌∷◌, []}
use Rattle.jr_paint.proofs.PixelLaws.{three_more}
use Rattle.jr_paint.proofs.pixels.interleave.Goals as goal

pub loop-i-preserved : goal.loop-i-preserved
loop-i-preserved c =
    let a = slice_index c.args.red.now in
    let b = slice_index c.args.green.now in
    let d = slice_index c.args.blue.now in
    let i = c.loop-i.i in
    search (rules, three_more (λ k. a k ∷ b k ∷ d k ∷ []) i c.loop-i.out (a i) (b i) (d i) (omega arith) refl c.loop-i.invariant)
