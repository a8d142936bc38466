use Rattle.std.proofs.Common.{arith, rules, ℕ, ap, ◌+◌, ◌*◌, ◌^◌, ◌<◌, length, pos, ◌+ℤ◌, w64, FitsSigned, ◌∙◌}
use Rattle.std.proofs.Math.ListN.{length-set}
use Rattle.std.proofs.lemmas.Int.{ints, to_z-of_z}
use Rattle.std.proofs.lemmas.List.Edits.{fill_by_more}
use Rattle.jr_idct.specs.Matrix.{IsWithin, at, wide_reach, transposed}
use Rattle.jr_idct.specs.Transform.{byte_of}
use Rattle.jr_idct.proofs.Passes.{second_within}
use Rattle.jr_idct.proofs.wide.sample_rows.Goals as goal

pub clamped-requires : goal.clamped-requires
clamped-requires c =
    let r = c.loop-r.r in
    let m = c.loop-c.c in
    let z = at c.column_pass-row.result r in
    let s = second_within wide_reach (2 ^ 43) c.args.columns.now c.requires (omega arith) (8 * m + r) (omega arith) in
    let w : IsWithin (2 ^ 43) z = rw (c.column_pass-row.ensures r (omega arith)) s in
    let f : FitsSigned w64 z = omega (arith, ints) in
    rw (to_z-of_z w64 z f) (omega (arith, ints), omega (arith, ints))

pub loop-r-preserved : goal.loop-r-preserved
loop-r-preserved c =
    let r = c.loop-r.r in
    let m = c.loop-c.c in
    let e = to_z-of_z w64 (at c.column_pass-row.result r) (search rules) ∙ c.column_pass-row.ensures r (omega arith) in
    let long : 8 * m + r < length c.loop-r.rows = omega (arith, c.loop-r.invariant.0) in
    let f : ℕ → ℕ = λ k. byte_of (transposed 18 c.args.columns.now k +ℤ pos 128) in
    rw (c.clamped.ensures ∙ ap (λ x. byte_of (x +ℤ pos 128)) e)
    (simp length-set c.loop-r.invariant.0, λ k h. fill_by_more f c.loop-r.rows (8 * m + r) 0 long c.loop-r.invariant.1 k (omega arith))
