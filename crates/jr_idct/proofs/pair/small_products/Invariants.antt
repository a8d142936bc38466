use Rattle.std.proofs.Common.{ℕ, ◌≡◌, ◌<◌, length, pos, slice_index}
use Rattle.std.proofs.Math.IntN.{◌*ℤ◌}
use Rattle.jr_idct.specs.Matrix.{at}
use Rattle.jr_idct.proofs.pair.small_products.Given as goal

abbrev pub invariant-loop-n : goal.invariant-loop-n
invariant-loop-n l = (length l.table ≡ 64) × ((j : ℕ) → j < l.n → at l.table j ≡ at l.block j *ℤ pos (slice_index l.factors j))
