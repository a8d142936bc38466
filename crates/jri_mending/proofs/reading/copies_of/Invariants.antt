use Rattle.std.proofs.Common.{◌≡◌, length}
use Rattle.jri_mending.proofs.reading.copies_of.Given as goal

abbrev pub invariant-loop-k : goal.invariant-loop-k
invariant-loop-k l = length l.copies.items ≡ l.k
