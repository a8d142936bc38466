use Rattle.std.proofs.Common.{arith, refl, pos, slice_index, ◌∙◌}
use Rattle.std.proofs.Math.IntN.{◌*ℤ◌}
use Rattle.jr_idct.specs.Matrix.{at}
use Rattle.jr_idct.specs.Transform.{product_at}
use Rattle.jr_idct.proofs.Whole.{sample_same, whole_from}
use Rattle.jr_idct.proofs.block.low_blocks.Goals as goal

pub low_samples-requires : goal.low_samples-requires
low_samples-requires c = record {
  small_a = λ n h. rw (c.natural.ensures.values n h, c.factors.ensures.factors n h) (c.requires.small_a n h);
  small_b = λ n h. rw (c.natural-2.ensures.values n h, c.factors.ensures.factors n h) (c.requires.small_b n h);
  low_a = (λ n l h. c.natural.ensures.values n h ∙ c.requires.low_a.0 n l h, λ n h l. c.natural.ensures.values n h ∙ c.requires.low_a.1 n h l);
  low_b = (λ n l h. c.natural-2.ensures.values n h ∙ c.requires.low_b.0 n l h, λ n h l. c.natural-2.ensures.values n h ∙ c.requires.low_b.1 n h l);
}

pub returns-clause-first : goal.returns-clause-first
returns-clause-first c =
    let z = c.args.a.now in
    let q = c.args.quantisers.now in
    let f = c.factors.result.now in
    let v = c.natural.result.now in
    whole_from z q _ (omega arith)
    (λ r k h g.
    c.low_samples.ensures.first r k h g
    ∙ sample_same (λ n. at v n *ℤ pos (slice_index f n)) (product_at z q) (λ n b. rw (c.natural.ensures.values n b, c.factors.ensures.factors n b) refl) r k h g)

pub returns-clause-second : goal.returns-clause-second
returns-clause-second c =
    let z = c.args.b.now in
    let q = c.args.quantisers.now in
    let f = c.factors.result.now in
    let v = c.natural-2.result.now in
    whole_from z q _ (omega arith)
    (λ r k h g.
    c.low_samples.ensures.second r k h g
    ∙ sample_same (λ n. at v n *ℤ pos (slice_index f n)) (product_at z q) (λ n b. rw (c.natural-2.ensures.values n b, c.factors.ensures.factors n b) refl) r k h g)
