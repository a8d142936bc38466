use Rattle.std.proofs.Common.{arith}
use Rattle.std.proofs.lemmas.Int.{ints}
use Rattle.jr_idct.proofs.Halves.{sum_shifted, difference_shifted}
use Rattle.jr_idct.proofs.pass.shifted.Goals as goal

pub returns-clause-sum : goal.returns-clause-sum
returns-clause-sum c = sum_shifted c.args.even c.args.odd _ _ c.well_formed.0 c.well_formed.1.0 c.args.bits (λ k h. let s = c.requires.short k h in omega (arith, ints, s.0.0))

pub returns-clause-difference : goal.returns-clause-difference
returns-clause-difference c = difference_shifted c.args.even c.args.odd _ _ c.well_formed.0 c.well_formed.1.0 c.args.bits (λ k h. let s = c.requires.short k h in omega (arith, ints, s.1.0))
