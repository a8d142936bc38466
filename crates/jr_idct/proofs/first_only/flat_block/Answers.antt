use Rattle.std.proofs.Common.{arith, rules, ap, ap₂, ◌≡◌, ◌<◌, ◌∙◌, ◌+◌, ◌*◌, pos, ◌+ℤ◌, slice_index, w16, w32, FitsSigned}
use Rattle.std.proofs.Math.IntN.{◌*ℤ◌}
use Rattle.std.proofs.lemmas.Int.{ints}
use Rattle.jr_idct.specs.Matrix.{floor_div}
use Rattle.jr_idct.specs.Transform.{byte_of}
use Rattle.jr_idct.proofs.Flat.{flat_is}
use Rattle.jr_idct.proofs.Tables.{product_stored, zigzag_place_0}
use Rattle.jr_idct.proofs.Whole.{product_within, whole_from}
use Rattle.jr_idct.proofs.first_only.flat_block.Goals as goal

pub flat_samples-requires : goal.flat_samples-requires
flat_samples-requires c =
    let a = c.first.result in
    let b = slice_index c.factors.result.now 0 in
    let short : FitsSigned w16 a = search rules in
    let fits : FitsSigned w32 a = omega (arith, ints, short) in
    let below : b < 65536 = search rules in
    let e = product_stored c.from.result c.from-2.result a b fits below (search (rules, c.from.ensures)) (search (rules, c.from-2.ensures)) in
    rw e (product_within 32768 65535 a (pos b) (omega (arith, ints, short), omega (arith, ints, short)) (omega (arith, ints), omega (arith, ints, below)))

pub returns : goal.returns
returns c =
    let z = c.args.block.now in
    let q = c.args.quantisers.now in
    let a = c.first.result in
    let b = slice_index c.factors.result.now 0 in
    let short : FitsSigned w16 a = search rules in
    let fits : FitsSigned w32 a = omega (arith, ints, short) in
    let below : b < 65536 = search rules in
    let e = product_stored c.from.result c.from-2.result a b fits below (search (rules, c.from.ensures)) (search (rules, c.from-2.ensures)) in
    let factor : b ≡ slice_index q 0 = c.factors.ensures.factors 0 (omega arith) ∙ ap (slice_index q) zigzag_place_0 in
    let product = e ∙ ap₂ (λ x y. x *ℤ pos y) c.first.ensures factor in
    whole_from z q _ (omega arith)
    (λ r k h g.
    c.flat_samples.ensures (8 * r + k) (omega (arith, h, g))
    ∙ ap (λ x. byte_of (floor_div (x +ℤ pos 4) 8 +ℤ pos 128)) product
    ∙ flat_is z q c.requires r k h g)
