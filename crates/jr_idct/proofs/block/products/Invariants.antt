use Rattle.std.proofs.Common.{ℕ, ◌≡◌, ◌<◌, length, pos, slice_index}
use Rattle.std.proofs.Math.IntN.{◌*ℤ◌}
use Rattle.jr_idct.specs.Matrix.{at, IsWithin}
use Rattle.jr_idct.proofs.block.products.Given as goal

abbrev pub invariant-loop-n : goal.invariant-loop-n
invariant-loop-n l = record {
  long : length l.table ≡ 64;
  values : (j : ℕ) → j < l.n → at l.table j ≡ at l.natural j *ℤ pos (slice_index l.factors j);
  short : (j : ℕ) → j < l.n → IsWithin 32768 (at l.natural j);
}
