use Rattle.std.proofs.Common.{ℕ, ◌≡◌, ◌<◌, ◌≤◌, slice_index}
use Rattle.std.specs.Prelude.{unsigned_abs}
use Rattle.jr_idct.specs.Matrix.{at}
use Rattle.jr_idct.proofs.small.are_within.Given as goal

abbrev pub invariant-loop-n : goal.invariant-loop-n
invariant-loop-n l = l.excess ≡ 0 → (j : ℕ) → j < l.n → (unsigned_abs (at l.a j) ≤ slice_index l.limits j) × (unsigned_abs (at l.b j) ≤ slice_index l.limits j)
