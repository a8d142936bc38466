use Rattle.std.proofs.Common.{arith, rules, ◌^◌, w64, FitsSigned, ◌∙◌}
use Rattle.std.proofs.lemmas.Int.{ints, to_z-of_z}
use Rattle.jr_idct.specs.Matrix.{at}
use Rattle.jr_idct.proofs.Columns.{passed_within}
use Rattle.jr_idct.proofs.Passes.{below_four, even_sum_within}
use Rattle.jr_idct.proofs.butterfly.even.Goals as goal

pub even_part-entry_0-requires-clause-x0_small : goal.even_part-entry_0-requires-clause-x0_small
even_part-entry_0-requires-clause-x0_small c = passed_within (2 ^ 40) (at c.args.x.now 0) (omega arith) (c.requires 0 (omega arith))

pub even_part-entry_0-requires-clause-x2_small : goal.even_part-entry_0-requires-clause-x2_small
even_part-entry_0-requires-clause-x2_small c = passed_within (2 ^ 40) (at c.args.x.now 1) (omega arith) (c.requires 1 (omega arith))

pub even_part-entry_0-requires-clause-x4_small : goal.even_part-entry_0-requires-clause-x4_small
even_part-entry_0-requires-clause-x4_small c = passed_within (2 ^ 40) (at c.args.x.now 2) (omega arith) (c.requires 2 (omega arith))

pub even_part-entry_0-requires-clause-x6_small : goal.even_part-entry_0-requires-clause-x6_small
even_part-entry_0-requires-clause-x6_small c = passed_within (2 ^ 40) (at c.args.x.now 3) (omega arith) (c.requires 3 (omega arith))

pub returns-clause-sums : goal.returns-clause-sums
returns-clause-sums c =
    let e = c.even_part-entry_0.ensures in
    let x = c.args.x.now in
    let a = c.requires 0 (omega arith) in
    let b = c.requires 1 (omega arith) in
    let d = c.requires 2 (omega arith) in
    let f = c.requires 3 (omega arith) in
    let fa : FitsSigned w64 (at x 0) = omega (arith, ints) in
    let fb : FitsSigned w64 (at x 1) = omega (arith, ints) in
    let fd : FitsSigned w64 (at x 2) = omega (arith, ints) in
    let ff : FitsSigned w64 (at x 3) = omega (arith, ints) in
    below_four _
    (to_z-of_z w64 _ (search rules) ∙ simp to_z-of_z at e.entry_0)
    (to_z-of_z w64 _ (search rules) ∙ simp to_z-of_z at e.entry_1)
    (to_z-of_z w64 _ (search rules) ∙ simp to_z-of_z at e.entry_2)
    (to_z-of_z w64 _ (search rules) ∙ simp to_z-of_z at e.entry_3)

pub returns-clause-small : goal.returns-clause-small
returns-clause-small c = λ i h.
    let s = even_sum_within (2 ^ 40) c.args.x.now c.requires i h in
    rw (returns-clause-sums c i h) (omega (arith, ints), omega (arith, ints))
