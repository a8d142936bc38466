use Rattle.std.proofs.Common.{arith, rules, ap, ◌+◌, ◌*◌, ◌/◌, ◌%◌, ◌^◌, ◌<◌, length, pos, w64, ◌∙◌}
use Rattle.std.proofs.Math.ListN.{length-set}
use Rattle.std.proofs.lemmas.Int.{ints, to_z-of_z}
use Rattle.std.proofs.lemmas.List.Edits.{fill_by_more}
use Rattle.jr_idct.specs.Matrix.{IsWithin, at, descale, pass, transposed, row_weight}
use Rattle.jr_idct.proofs.Passes.{row_sum_within}
use Rattle.jr_idct.proofs.matrix.plain_passes.Goals as goal

pub descaled-requires-clause-small : goal.descaled-requires-clause-small
descaled-requires-clause-small c =
    let n = c.loop-n.n in
    let z = c.plain_sum.result in
    let s = row_sum_within (2 ^ 40) (λ j. at c.args.table.now (8 * j + n / 8)) (λ j b. c.requires.small (8 * j + n / 8) (omega arith)) (n % 8) (omega arith) in
    let w : IsWithin (row_weight * 2 ^ 40) z = rw c.plain_sum.ensures s in
    rw (to_z-of_z w64 z (search rules)) (omega (arith, ints), omega (arith, ints))

pub loop-n-preserved : goal.loop-n-preserved
unfolding transposed pass
loop-n-preserved c =
    let n = c.loop-n.n in
    let bits = c.args.bits in
    let t = c.args.table.now in
    let long : n < length c.loop-n.rows = omega (arith, c.loop-n.invariant.0) in
    let e = to_z-of_z w64 c.descaled.result (search rules) ∙ c.descaled.ensures ∙ ap (descale bits) (to_z-of_z w64 c.plain_sum.result (search rules) ∙ c.plain_sum.ensures) in
    rw e
    (simp length-set c.loop-n.invariant.0, fill_by_more (transposed bits t) c.loop-n.rows n (pos 0) long c.loop-n.invariant.1)
