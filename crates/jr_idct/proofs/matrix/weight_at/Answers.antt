use Rattle.std.proofs.Common.{arith, rules, w16, FitsSigned}
use Rattle.std.proofs.lemmas.Int.{ints, to_z-of_z}
use Rattle.jr_idct.specs.Matrix.{weight}
use Rattle.jr_idct.proofs.Plain.{weight_small}
use Rattle.jr_idct.proofs.matrix.weight_at.Goals as goal

pub returns-clause-value : goal.returns-clause-value
returns-clause-value c =
    let s = weight_small c.args.i c.args.k c.requires.row c.requires.column in
    let f : FitsSigned w16 (weight c.args.i c.args.k) = omega (arith, ints, s) in
    search (rules, to_z-of_z w16 (weight c.args.i c.args.k) f)

pub returns-clause-small : goal.returns-clause-small
returns-clause-small c =
    let s = weight_small c.args.i c.args.k c.requires.row c.requires.column in
    let f : FitsSigned w16 (weight c.args.i c.args.k) = omega (arith, ints, s) in
    rw (to_z-of_z w16 (weight c.args.i c.args.k) f) s
