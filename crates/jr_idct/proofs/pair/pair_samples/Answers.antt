use Rattle.std.proofs.Common.{rules, ◌≡◌, ◌+◌, ◌-◌, ◌*◌, pos, inl, inr, [], ◌∷◌, slice_index, arith, subst, ◌∙◌, w16}
use Rattle.std.proofs.Math.IntN.{◌*ℤ◌}
use Rattle.std.proofs.lemmas.Bool.{cases_lt}
use Rattle.jr_base.specs.declared.quantisers.TheConstants.{MAX_PRODUCT}
use Rattle.jr_idct.specs.Lanes.{lane}
use Rattle.jr_idct.specs.Matrix.{at, IsWithin}
use Rattle.jr_idct.proofs.Vectors.{unchanged}
use Rattle.jr_idct.proofs.pair.pair_samples.Goals as goal

pub rows_of-x-requires : goal.rows_of-x-requires
rows_of-x-requires c = record {
  small_a = λ n h. rw (c.small_products-products_a.ensures n h) (c.requires.small_a n h);
  small_b = λ n h. rw (c.small_products-products_b.ensures n h) (c.requires.small_b n h);
}

pub sample_rows-rows-requires : goal.sample_rows-rows-requires
sample_rows-rows-requires c =
    let u0 = unchanged w16 16 c.rows_of-x.result.0 _ c.rows_of-x.type_inv.1.1.0 in
    let u1 = unchanged w16 16 c.rows_of-x.result.1 _ c.rows_of-x.type_inv.1.1.1.0 in
    let u2 = unchanged w16 16 c.rows_of-x.result.2 _ c.rows_of-x.type_inv.1.1.1.1.0 in
    let u3 = unchanged w16 16 c.rows_of-x.result.3 _ c.rows_of-x.type_inv.1.1.1.1.1.0 in
    let u4 = unchanged w16 16 c.rows_of-x.result.4 _ c.rows_of-x.type_inv.1.1.1.1.1.1.0 in
    let u5 = unchanged w16 16 c.rows_of-x.result.5 _ c.rows_of-x.type_inv.1.1.1.1.1.1.1.0 in
    let u6 = unchanged w16 16 c.rows_of-x.result.6 _ c.rows_of-x.type_inv.1.1.1.1.1.1.1.1.0 in
    let u7 = unchanged w16 16 c.rows_of-x.result.7 _ c.rows_of-x.type_inv.1.1.1.1.1.1.1.1.1.0 in
    rw (u0, u1, u2, u3, u4, u5, u6, u7) (λ k p h g.
    elim (cases_lt p 8) [
      | inl l ↦ rw (c.rows_of-x.ensures.first k p h l ∙ c.small_products-products_a.ensures (8 * k + p) (omega (arith, h, l))) (c.requires.small_a (8 * k + p) (omega (arith, h, l)))
      | inr o ↦
          let e : 8 + (p - 8) ≡ p = omega (arith, o) in
          subst (λ p. IsWithin MAX_PRODUCT (lane (c.rows_of-x.result.0 ∷ c.rows_of-x.result.1 ∷ c.rows_of-x.result.2 ∷ c.rows_of-x.result.3 ∷ c.rows_of-x.result.4 ∷ c.rows_of-x.result.5 ∷ c.rows_of-x.result.6 ∷ c.rows_of-x.result.7 ∷ []) k p)) e
          (rw (c.rows_of-x.ensures.second k (p - 8) h (omega (arith, o, g)) ∙ c.small_products-products_b.ensures (8 * k + (p - 8)) (omega (arith, h, o, g))) (c.requires.small_b (8 * k + (p - 8)) (omega (arith, h, o, g))))
    ])

pub returns : goal.returns
returns c =
    let u0 = unchanged w16 16 c.rows_of-x.result.0 _ c.rows_of-x.type_inv.1.1.0 in
    let u1 = unchanged w16 16 c.rows_of-x.result.1 _ c.rows_of-x.type_inv.1.1.1.0 in
    let u2 = unchanged w16 16 c.rows_of-x.result.2 _ c.rows_of-x.type_inv.1.1.1.1.0 in
    let u3 = unchanged w16 16 c.rows_of-x.result.3 _ c.rows_of-x.type_inv.1.1.1.1.1.0 in
    let u4 = unchanged w16 16 c.rows_of-x.result.4 _ c.rows_of-x.type_inv.1.1.1.1.1.1.0 in
    let u5 = unchanged w16 16 c.rows_of-x.result.5 _ c.rows_of-x.type_inv.1.1.1.1.1.1.1.0 in
    let u6 = unchanged w16 16 c.rows_of-x.result.6 _ c.rows_of-x.type_inv.1.1.1.1.1.1.1.1.0 in
    let u7 = unchanged w16 16 c.rows_of-x.result.7 _ c.rows_of-x.type_inv.1.1.1.1.1.1.1.1.1.0 in
    record {
      first = λ r k h g.
          let row = c.sample_rows-rows.ensures.first (λ n. at c.args.a.now n *ℤ pos (slice_index c.args.factors.now n)) (rw (u0, u1, u2, u3, u4, u5, u6, u7) (λ j i b d. c.rows_of-x.ensures.first j i b d ∙ c.small_products-products_a.ensures (8 * j + i) (omega (arith, b, d)))) r k h g in
          search (rules, c.gathered-first.ensures (8 * r + k) (omega (arith, h, g)), row);
      second = λ r k h g.
          let row = c.sample_rows-rows.ensures.second (λ n. at c.args.b.now n *ℤ pos (slice_index c.args.factors.now n)) (rw (u0, u1, u2, u3, u4, u5, u6, u7) (λ j i b d. c.rows_of-x.ensures.second j i b d ∙ c.small_products-products_b.ensures (8 * j + i) (omega (arith, b, d)))) r k h g in
          search (rules, c.gathered-second.ensures (8 * r + k) (omega (arith, h, g)), row);
    }
