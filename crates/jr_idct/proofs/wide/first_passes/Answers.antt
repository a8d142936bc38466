use Rattle.std.proofs.Common.{arith, rules, ◌+◌, ◌*◌, ◌<◌, length, pos, w64, ◌∙◌}
use Rattle.std.proofs.Math.ListN.{length-set}
use Rattle.std.proofs.lemmas.Int.{to_z-of_z}
use Rattle.std.proofs.lemmas.List.Edits.{fill_by_more}
use Rattle.jr_idct.specs.Matrix.{at, transposed}
use Rattle.jr_idct.proofs.wide.first_passes.Goals as goal

pub loop-r-preserved : goal.loop-r-preserved
loop-r-preserved c =
    let r = c.loop-r.r in
    let m = c.loop-c.c in
    let e = to_z-of_z w64 (at c.column_pass-row.result r) (search rules) ∙ c.column_pass-row.ensures r (omega arith) in
    let long : 8 * m + r < length c.loop-r.rows = omega (arith, c.loop-r.invariant.0) in
    rw e
    (simp length-set c.loop-r.invariant.0, λ k h. fill_by_more (transposed 11 c.args.table.now) c.loop-r.rows (8 * m + r) (pos 0) long c.loop-r.invariant.1 k (omega arith))
