use Rattle.std.proofs.Common.{arith, refl, rules, ap, ◌+◌, ◌*◌, ◌^◌, ◌+ℤ◌, ◌≡◌, w64, to_z, ◌∙◌}
use Rattle.std.proofs.Math.IntN.{◌*ℤ◌}
use Rattle.std.proofs.lemmas.Int.{ints, to_z-of_z}
use Rattle.jr_idct.specs.Matrix.{at, sum_below}
use Rattle.jr_idct.proofs.Plain.{term_is, sum_more, sum_larger}
use Rattle.jr_idct.proofs.Sums.{row_is_sum}
use Rattle.jr_idct.proofs.Whole.{product_within}
use Rattle.jr_idct.proofs.matrix.plain_sum.Goals as goal

pub loop-k-init : goal.loop-k-init
unfolding sum_below
loop-k-init c = (refl, (omega (arith, ints), omega (arith, ints)))

pub times-requires : goal.times-requires
times-requires c =
    let w = c.weight_at.result in
    let x = at c.args.table.now (8 * c.loop-k.k + c.args.c) in
    let ws = c.weight_at.ensures.small in
    let xs = c.requires.small (8 * c.loop-k.k + c.args.c) (omega arith) in
    let term = product_within (2 ^ 14) (2 ^ 40) w x ws xs in
    rw (term_is w x ws xs) (omega (arith, ints), omega (arith, ints))

pub plus-sum-requires : goal.plus-sum-requires
plus-sum-requires c =
    let w = c.weight_at.result in
    let x = at c.args.table.now (8 * c.loop-k.k + c.args.c) in
    let ws = c.weight_at.ensures.small in
    let xs = c.requires.small (8 * c.loop-k.k + c.args.c) (omega arith) in
    let term = product_within (2 ^ 14) (2 ^ 40) w x ws xs in
    let sum = c.loop-k.invariant.1 in
    rw (to_z-of_z w64 c.times.result (search rules) ∙ c.times.ensures ∙ term_is w x ws xs) (omega (arith, ints), omega (arith, ints))

pub loop-k-preserved : goal.loop-k-preserved
loop-k-preserved c =
    let k = c.loop-k.k in
    let w = c.weight_at.result in
    let x = at c.args.table.now (8 * k + c.args.c) in
    let s = to_z w64 c.loop-k.sum-bits in
    let ws = c.weight_at.ensures.small in
    let xs = c.requires.small (8 * k + c.args.c) (omega arith) in
    let term = product_within (2 ^ 14) (2 ^ 40) w x ws xs in
    let is_term = to_z-of_z w64 c.times.result (search rules) ∙ c.times.ensures ∙ term_is w x ws xs in
    rw (to_z-of_z w64 c.plus-sum.result (search rules) ∙ c.plus-sum.ensures ∙ ap (λ z. s +ℤ z) is_term)
    (sum_more c.args.i (λ j. at c.args.table.now (8 * j + c.args.c)) k s w c.loop-k.invariant.0 c.weight_at.ensures.value, sum_larger k s (w *ℤ x) c.loop-k.invariant.1 term)

pub returns : goal.returns
returns c =
    let e : c.loop-k.k ≡ 8 = omega arith in
    rw (← row_is_sum c.args.i (λ j. at c.args.table.now (8 * j + c.args.c))) (rw e at c.loop-k.invariant.0)
