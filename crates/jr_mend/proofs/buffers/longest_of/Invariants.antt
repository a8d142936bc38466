use Rattle.std.proofs.Common.{ℕ, ◌<◌, ◌≤◌, ◌^◌, get_or, length}
use Rattle.jr_mend.specs.Copies.{CopyValue}
use Rattle.jr_mend.proofs.buffers.longest_of.Given as goal

abbrev pub invariant-loop-k : goal.invariant-loop-k
invariant-loop-k l = ((j : ℕ) (c : CopyValue) → j < l.k → length (get_or l.copies j c).file ≤ l.longest) × (l.longest < 2 ^ 63)
