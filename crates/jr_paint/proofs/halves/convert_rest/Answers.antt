use Rattle.std.proofs.Common.{◌≡◌, ◌/◌, ◌∷◌, [], slice_index, arith, rules}
use Rattle.jr_segments.specs.declared.kind.Kind.TheVariants.{Ycc}
use Rattle.jr_paint.specs.Colours.{colour_of}
use Rattle.jr_paint.proofs.PixelLaws.{three_more}
use Rattle.jr_paint.proofs.halves.convert_rest.Goals as goal

pub loop-i-preserved : goal.loop-i-preserved
loop-i-preserved c =
    let a = slice_index c.args.luma.now in
    let b = slice_index c.args.cb.now in
    let d = slice_index c.args.cr.now in
    let l = c.loop-i in
    let i = l.i in
    let p = slice_index c.mixed.result in
    let is : colour_of Ycc (a i) (b (i / 2)) (d (i / 2)) ≡ p 0 ∷ p 1 ∷ p 2 ∷ [] = search rules in
    three_more (λ k. colour_of Ycc (a k) (b (k / 2)) (d (k / 2))) i l.out (p 0) (p 1) (p 2) (omega arith) is l.invariant
