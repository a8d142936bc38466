use Rattle.std.proofs.Common.{arith, rules, ap, ℕ, ◌<◌, ◌∙◌, length, pos, slice_index, w16, FitsSigned}
use Rattle.std.proofs.Math.IntN.{◌*ℤ◌}
use Rattle.std.proofs.Math.ListN.{length-set}
use Rattle.std.proofs.lemmas.Int.{to_z-of_z}
use Rattle.std.proofs.lemmas.List.Edits.{fill_by_more}
use Rattle.jr_idct.specs.Matrix.{at}
use Rattle.jr_idct.proofs.pair.small_products.Goals as goal

pub product-requires : goal.product-requires
product-requires c =
    let n = c.loop-n.n in
    let f : FitsSigned w16 (at c.args.block.now n) = search rules in
    let s = c.requires n (omega arith) in
    rw (to_z-of_z w16 (at c.args.block.now n) f) (search (rules, s))

pub loop-n-preserved : goal.loop-n-preserved
loop-n-preserved c =
    let z = c.args.block.now in
    let q = c.args.factors.now in
    let n = c.loop-n.n in
    let f : FitsSigned w16 (at z n) = search rules in
    let e = to_z-of_z w16 c.product.result (search rules) ∙ c.product.ensures ∙ ap (λ x. x *ℤ pos (slice_index q n)) (to_z-of_z w16 (at z n) f) in
    let long : n < length c.loop-n.table = omega (arith, c.loop-n.invariant.0) in
    rw e
    (simp length-set c.loop-n.invariant.0, fill_by_more (λ (j : ℕ). at z j *ℤ pos (slice_index q j)) c.loop-n.table n (pos 0) long c.loop-n.invariant.1)
