use Rattle.std.proofs.Common.{rules}
use Rattle.jr_idct.specs.Matrix.{row_sum, pass}
use Rattle.jr_idct.specs.Transform.{column_pass}
use Rattle.jr_idct.proofs.Energy.{values_are_near, spread, AreSmall}
use Rattle.jr_idct.proofs.Roundings.{second_near, SecondIsNear}
use Rattle.jr_idct.proofs.Squares.{adds}
use Rattle.jr_idct.proofs.laws.values_are_near.Goals as goal

pub returns : goal.returns
unfolding spread adds pass
returns c =
    let entries : AreSmall = search (rules) in
    let second : SecondIsNear = λ x r c. search (rules, second_near (row_sum c (λ u. column_pass x u r))) in
    values_are_near entries second
