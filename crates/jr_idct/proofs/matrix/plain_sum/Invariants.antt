use Rattle.std.proofs.Common.{◌≡◌, ◌+◌, ◌*◌, ◌^◌}
use Rattle.std.proofs.Math.IntN.{◌*ℤ◌}
use Rattle.jr_idct.specs.Matrix.{at, weight, IsWithin, sum_below}
use Rattle.jr_idct.proofs.matrix.plain_sum.Given as goal

abbrev pub invariant-loop-k : goal.invariant-loop-k
invariant-loop-k l = (l.sum ≡ sum_below l.k (λ j. weight l.i j *ℤ at l.table (8 * j + l.c))) × IsWithin (l.k * 2 ^ 54) l.sum
