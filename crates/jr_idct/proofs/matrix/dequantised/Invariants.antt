use Rattle.std.proofs.Common.{◌≡◌, ℕ, ◌<◌, length}
use Rattle.jr_idct.specs.Matrix.{at}
use Rattle.jr_idct.specs.Transform.{product_at}
use Rattle.jr_idct.proofs.matrix.dequantised.Given as goal

abbrev pub invariant-loop-n : goal.invariant-loop-n
invariant-loop-n l = (length l.table ≡ 64) × ((k : ℕ) → k < l.n → at l.table k ≡ product_at l.coefficients l.quantisers k)
