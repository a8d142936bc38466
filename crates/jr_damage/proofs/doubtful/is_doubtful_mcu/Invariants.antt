use Rattle.std.proofs.Common.{ℕ, ◌<◌, slice_index_or}
use Rattle.jr_head.specs.Geometry.{quantiser_of}
use Rattle.jr_mcu.specs.Mcus.{block_of}
use Rattle.jr_damage.specs.Doubtful.{HasDoubtful}
use Rattle.jr_damage.proofs.doubtful.is_doubtful_mcu.Given as goal

abbrev pub invariant-loop-u : goal.invariant-loop-u
invariant-loop-u l = (j : ℕ) → j < l.u → HasDoubtful (quantiser_of l.head (slice_index_or l.order j 0)) (block_of l.units j) → ⊥
