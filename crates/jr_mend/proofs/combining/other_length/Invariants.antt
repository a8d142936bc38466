use Rattle.std.proofs.Common.{◌≡◌, ℕ, ◌<◌, length, get_or}
use Rattle.jr_mend.specs.Copies.{CopyValue}
use Rattle.jr_mend.proofs.combining.other_length.Given as goal

abbrev pub invariant-loop-k : goal.invariant-loop-k
invariant-loop-k l = (j : ℕ) (c : CopyValue) → j < l.k → length (get_or l.copies j c).file ≡ l.long
