use Rattle.std.proofs.Common.{◌≡◌, ℕ, ◌+◌, ◌*◌, ◌<◌, length}
use Rattle.jr_idct.specs.Matrix.{at, transposed}
use Rattle.jr_idct.proofs.wide.first_passes.Given as goal

abbrev pub invariant-loop-r : goal.invariant-loop-r
invariant-loop-r l = (length l.rows ≡ 64) × ((k : ℕ) → k < 8 * l.c + l.r → at l.rows k ≡ transposed 11 l.table k)

abbrev pub invariant-loop-c : goal.invariant-loop-c
invariant-loop-c l = (length l.rows ≡ 64) × ((k : ℕ) → k < 8 * l.c → at l.rows k ≡ transposed 11 l.table k)
