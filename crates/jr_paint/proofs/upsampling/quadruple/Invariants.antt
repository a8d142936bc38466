use Rattle.std.proofs.Common.{◌≡◌, ℕ, ◌*◌, ◌/◌, ◌<◌, slice_index}
use Rattle.jr_paint.proofs.upsampling.quadruple.Given as goal

abbrev pub invariant-loop-i : goal.invariant-loop-i
invariant-loop-i l = (k : ℕ) → k < 4 * l.i → slice_index l.out k ≡ slice_index l.near (k / 4)

abbrev pub invariant-loop-k : goal.invariant-loop-k
invariant-loop-k l = (k : ℕ) → k < l.k → slice_index l.out k ≡ slice_index l.near (k / 4)
