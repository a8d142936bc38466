use Rattle.std.proofs.Common.{arith, rules, ◌<◌, length, pos, w32, FitsSigned}
use Rattle.std.proofs.Math.ListN.{length-set}
use Rattle.std.proofs.lemmas.List.Edits.{fill_by_more}
use Rattle.jr_idct.specs.Matrix.{at}
use Rattle.jr_idct.specs.Transform.{product_at}
use Rattle.jr_idct.proofs.Tables.{product_stored}
use Rattle.jr_idct.proofs.matrix.dequantised.Goals as goal

pub loop-n-preserved : goal.loop-n-preserved
loop-n-preserved c =
    let z = c.args.coefficients.now in
    let q = c.args.quantisers.now in
    let p = c.place_at-place.result in
    let n = c.loop-n.n in
    let f : FitsSigned w32 (at z p) = search rules in
    let e = product_stored c.from.result c.from-in-loop-n.result (at z p) _ f (c.fits-quantisers p) c.from.ensures c.from-in-loop-n.ensures in
    let long : n < length c.loop-n.table = omega (arith, c.loop-n.invariant.0) in
    rw (e, c.place_at-place.ensures.value)
    (simp length-set c.loop-n.invariant.0, fill_by_more (product_at z q) c.loop-n.table n (pos 0) long c.loop-n.invariant.1)
