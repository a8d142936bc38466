use Rattle.std.proofs.Common.{arith, refl, ◌∙◌}
use Rattle.std.proofs.lemmas.Int.{ints}
use Rattle.jr_idct.specs.Matrix.{at}
use Rattle.jr_idct.specs.Transform.{product_at}
use Rattle.jr_idct.proofs.Whole.{sample_same, whole_from}
use Rattle.jr_idct.proofs.block.any_block.Goals as goal

pub wide_samples-requires : goal.wide_samples-requires
wide_samples-requires c = λ n b. let s = c.products.ensures.small n b in (omega (arith, ints, s.0), omega (arith, ints, s.1))

pub returns : goal.returns
returns c =
    let z = c.args.block.now in
    let q = c.args.quantisers.now in
    whole_from z q _ (omega arith)
    (λ r k h g.
    c.wide_samples.ensures r k h g
    ∙ sample_same (at c.products.result) (product_at z q) (λ n b. c.products.ensures.values n b ∙ rw (c.natural.ensures.values n b, c.factors.ensures.factors n b) refl) r k h g)
