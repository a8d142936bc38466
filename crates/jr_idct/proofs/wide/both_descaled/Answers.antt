use Rattle.std.proofs.Common.{arith, rules, ◌+ℤ◌, ◌-ℤ◌, w64, FitsSigned, ◌∙◌}
use Rattle.std.proofs.lemmas.Int.{ints, to_z-of_z}
use Rattle.jr_idct.proofs.wide.both_descaled.Goals as goal

pub returns-clause-sum : goal.returns-clause-sum
returns-clause-sum c =
    let f : FitsSigned w64 (c.args.even +ℤ c.args.odd) = omega (arith, ints) in
    let e = c.ranges.even in
    let o = c.ranges.odd in
    to_z-of_z w64 _ (search rules) ∙ simp to_z-of_z at c.descaled-sum.ensures

pub returns-clause-difference : goal.returns-clause-difference
returns-clause-difference c =
    let f : FitsSigned w64 (c.args.even -ℤ c.args.odd) = omega (arith, ints) in
    let e = c.ranges.even in
    let o = c.ranges.odd in
    to_z-of_z w64 _ (search rules) ∙ simp to_z-of_z at c.descaled-difference.ensures
