use Rattle.std.proofs.Common.{◌≡◌, ℕ, ◌+◌, ◌*◌, ◌<◌, length, pos, ◌+ℤ◌, slice_index}
use Rattle.jr_idct.specs.Matrix.{transposed}
use Rattle.jr_idct.specs.Transform.{byte_of}
use Rattle.jr_idct.proofs.wide.sample_rows.Given as goal

abbrev pub invariant-loop-r : goal.invariant-loop-r
invariant-loop-r l = (length l.rows ≡ 64) × ((k : ℕ) → k < 8 * l.c + l.r → slice_index l.rows k ≡ byte_of (transposed 18 l.columns k +ℤ pos 128))

abbrev pub invariant-loop-c : goal.invariant-loop-c
invariant-loop-c l = (length l.rows ≡ 64) × ((k : ℕ) → k < 8 * l.c → slice_index l.rows k ≡ byte_of (transposed 18 l.columns k +ℤ pos 128))
