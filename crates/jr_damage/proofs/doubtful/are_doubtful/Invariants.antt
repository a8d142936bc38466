use Rattle.std.proofs.Common.{ℕ, ◌<◌, ◌↔◌, IsTrue, slice_index_or, pos}
use Rattle.jr_damage.specs.Doubtful.{IsDoubtful}
use Rattle.jr_damage.proofs.doubtful.are_doubtful.Given as goal

abbrev pub invariant-loop-n : goal.invariant-loop-n
invariant-loop-n l = IsTrue l.found ↔ ((j : ℕ) × (j < l.n) × IsDoubtful (slice_index_or l.values j (pos 0)) (slice_index_or l.steps j 0))
