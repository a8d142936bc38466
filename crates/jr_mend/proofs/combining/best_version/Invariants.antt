use Rattle.std.proofs.Common.{◌<◌, length}
use Rattle.std.specs.Vec.{vec_capacity}
use Rattle.jr_mend.proofs.combining.best_version.Given as goal

abbrev pub invariant-loop-k : goal.invariant-loop-k
invariant-loop-k l = (l.best < length l.copies) × (length l.file < vec_capacity l.buffers.data)
