use Rattle.std.proofs.Common.{arith, ◌∙◌}
use Rattle.jr_idct.specs.Matrix.{at}
use Rattle.jr_idct.specs.Transform.{product_at}
use Rattle.jr_idct.proofs.Whole.{product_at_within, sample_same, whole_from}
use Rattle.jr_idct.proofs.block.transform.Goals as goal

pub wide_samples-requires : goal.wide_samples-requires
wide_samples-requires c = λ n b. rw (c.dequantised.ensures n b) (product_at_within c.args.coefficients.now c.args.quantisers.now c.requires c.fits-quantisers n b)

pub returns-clause-by_place : goal.returns-clause-by_place
returns-clause-by_place c = λ r k h g.
    c.wide_samples.ensures r k h g ∙ sample_same (at c.dequantised.result) (product_at c.args.coefficients.now c.args.quantisers.now) c.dequantised.ensures r k h g

pub returns-clause-whole : goal.returns-clause-whole
returns-clause-whole c = whole_from c.args.coefficients.now c.args.quantisers.now _ (omega arith) (returns-clause-by_place c)
