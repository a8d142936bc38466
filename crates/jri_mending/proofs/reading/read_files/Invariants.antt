use Rattle.std.proofs.Common.{◌≡◌, length}
use Rattle.jri_mending.proofs.reading.read_files.Given as goal

abbrev pub invariant-loop-k : goal.invariant-loop-k
invariant-loop-k g l = length l.files.items ≡ l.k
