use Rattle.std.proofs.Common.{arith, rules, ℕ, ◌≡◌, ◌<◌, length, pos, slice_index, get_or, w16, w32, inl, inr}
use mir.Val.{SFits}
use Rattle.std.proofs.Math.IntN.{◌*ℤ◌}
use Rattle.std.proofs.Math.ListN.{length-set}
use Rattle.std.proofs.lemmas.Bool.{cases_lt}
use Rattle.std.proofs.lemmas.Int.{ints}
use Rattle.std.proofs.lemmas.List.Edits.{fill_by_more}
use Rattle.jr_idct.specs.Matrix.{at}
use Rattle.jr_idct.proofs.Tables.{product_stored}
use Rattle.jr_idct.proofs.Whole.{product_within}
use Rattle.jr_idct.proofs.block.products.Goals as goal

pub loop-n-preserved : goal.loop-n-preserved
loop-n-preserved c =
    let z = c.args.natural.now in
    let q = c.args.factors.now in
    let n = c.loop-n.n in
    let short : SFits w16 (get_or z n (pos 0)) = search rules in
    let fits : SFits w32 (at z n) = omega (arith, ints, short) in
    let e = product_stored c.from.result c.from-in-loop-n.result (at z n) (slice_index q n) fits (c.fits-factors n) (search (rules, c.from.ensures)) (search (rules, c.from-in-loop-n.ensures)) in
    let long : n < length c.loop-n.table = omega (arith, c.loop-n.invariant.long) in
    rw e
    (record {
      long = simp length-set c.loop-n.invariant.long;
      values = fill_by_more (λ (j : ℕ). at z j *ℤ pos (slice_index q j)) c.loop-n.table n (pos 0) long c.loop-n.invariant.values;
      short = λ j h.
          elim (cases_lt j n) [
            | inl a ↦ c.loop-n.invariant.short j a
            | inr b ↦ let e : j ≡ n = omega (arith, h, b) in rw e (omega (arith, ints, short), omega (arith, ints, short))
          ];
    })

pub returns-clause-small : goal.returns-clause-small
returns-clause-small c = λ n h.
    let z = c.args.natural.now in
    let q = c.args.factors.now in
    let b : n < c.loop-n.n = omega arith in
    let f = c.fits-factors n in
    rw (c.loop-n.invariant.values n b) (product_within 32768 65535 (at z n) (pos (slice_index q n)) (c.loop-n.invariant.short n b) (omega (arith, ints), omega (arith, ints, f)))
