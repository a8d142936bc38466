use Rattle.std.proofs.Common.{arith, rules, ap, ℕ, ℤ, List, ◌≡◌, ◌<◌, ◌+◌, ◌*◌, ◌^◌, pos, ◌+ℤ◌, ◌∙◌, w64, FitsSigned}
use Rattle.std.proofs.lemmas.Int.{ints, to_z-of_z}
use Rattle.jr_idct.specs.Matrix.{IsWithin, at, transposed}
use Rattle.jr_idct.specs.Transform.{byte_of, product_at}
use Rattle.jr_idct.proofs.Passes.{first_within, second_within}
use Rattle.jr_idct.proofs.Whole.{product_at_within, sample_from, whole_from}
use Rattle.jr_idct.proofs.matrix.matrix_transform.Goals as goal

columns_small : (table columns : List ℤ) → ((k : ℕ) → k < 64 → IsWithin (2 ^ 31) (at table k)) → ((k : ℕ) → k < 64 → at columns k ≡ transposed 11 table k)
    → (k : ℕ) → k < 64 → IsWithin (2 ^ 40) (at columns k)
columns_small table columns small is_columns k h = rw (is_columns k h) (first_within (2 ^ 31) (2 ^ 40) table small (omega arith) k h)

pub plain_passes-columns-requires-clause-small : goal.plain_passes-columns-requires-clause-small
plain_passes-columns-requires-clause-small c = λ k h.
    let s = product_at_within c.args.coefficients.now c.args.quantisers.now c.requires c.fits-quantisers k h in
    rw (c.dequantised.ensures k h) (omega (arith, ints), omega (arith, ints))

pub plain_passes-values-requires-clause-small : goal.plain_passes-values-requires-clause-small
plain_passes-values-requires-clause-small c =
    columns_small c.dequantised.result c.plain_passes-columns.result
    (λ k h. rw (c.dequantised.ensures k h) (product_at_within c.args.coefficients.now c.args.quantisers.now c.requires c.fits-quantisers k h))
    c.plain_passes-columns.ensures

pub clamped-requires : goal.clamped-requires
clamped-requires c =
    let k = c.loop-k.k in
    let z = at c.plain_passes-values.result k in
    let t : (k : ℕ) → k < 64 → IsWithin (2 ^ 31) (at c.dequantised.result k) =
    λ k h. rw (c.dequantised.ensures k h) (product_at_within c.args.coefficients.now c.args.quantisers.now c.requires c.fits-quantisers k h) in
    let m = columns_small c.dequantised.result c.plain_passes-columns.result t c.plain_passes-columns.ensures in
    let s = second_within (2 ^ 40) (2 ^ 40) c.plain_passes-columns.result m (omega arith) k (omega arith) in
    let e : z ≡ transposed 18 c.plain_passes-columns.result k = search (rules, c.plain_passes-values.ensures k (omega arith)) in
    let w : IsWithin (2 ^ 40) z = rw e s in
    let f : FitsSigned w64 z = omega (arith, ints) in
    rw (to_z-of_z w64 z f) (omega (arith, ints), omega (arith, ints))

pub returns-clause-by_place : goal.returns-clause-by_place
returns-clause-by_place c = λ r k h g.
    let v = at c.plain_passes-values.result (8 * r + k) in
    let e : v ≡ transposed 18 c.plain_passes-columns.result (8 * r + k) = search (rules, c.plain_passes-values.ensures (8 * r + k) (omega arith)) in
    c.loop-k.invariant.1 (8 * r + k) (omega arith)
    ∙ ap (λ x. byte_of (x +ℤ pos 128)) e
    ∙ sample_from (product_at c.args.coefficients.now c.args.quantisers.now) c.dequantised.result c.plain_passes-columns.result c.dequantised.ensures c.plain_passes-columns.ensures r k h g

pub returns-clause-whole : goal.returns-clause-whole
returns-clause-whole c =
    whole_from c.args.coefficients.now c.args.quantisers.now _ c.loop-k.invariant.0 (returns-clause-by_place c)
