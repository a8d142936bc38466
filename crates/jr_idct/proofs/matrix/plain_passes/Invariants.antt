use Rattle.std.proofs.Common.{◌≡◌, ℕ, ◌<◌, length}
use Rattle.jr_idct.specs.Matrix.{at, transposed}
use Rattle.jr_idct.proofs.matrix.plain_passes.Given as goal

abbrev pub invariant-loop-n : goal.invariant-loop-n
invariant-loop-n l = (length l.rows ≡ 64) × ((k : ℕ) → k < l.n → at l.rows k ≡ transposed l.bits l.table k)
