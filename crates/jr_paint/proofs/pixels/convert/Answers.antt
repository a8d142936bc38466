use Rattle.std.proofs.Common.{◌≡◌, ◌∷◌, [], slice_index, arith, rules}
use Rattle.jr_segments.specs.declared.kind.Kind.TheVariants.{Ycc}
use Rattle.jr_paint.specs.Colours.{colour_of}
use Rattle.jr_paint.proofs.PixelLaws.{three_more}
use Rattle.jr_paint.proofs.pixels.convert.Goals as goal

pub loop-i-preserved : goal.loop-i-preserved
loop-i-preserved c =
    let a = slice_index c.args.luma.now in
    let b = slice_index c.args.cb.now in
    let d = slice_index c.args.cr.now in
    let i = c.loop-i.i in
    let p = slice_index c.mixed.result in
    let is : colour_of Ycc (a i) (b i) (d i) ≡ p 0 ∷ p 1 ∷ p 2 ∷ [] = search rules in
    three_more (λ k. colour_of Ycc (a k) (b k) (d k)) i c.loop-i.out (p 0) (p 1) (p 2) (omega arith) is c.loop-i.invariant
