use Rattle.std.proofs.Common.{◌≡◌, ℕ, ◌<◌, length, get_or}
use Rattle.jr_cut.specs.declared.file_segments.FileSegment.{FileSegment}
use Rattle.jr_mend.proofs.NextPositions.{IsNextIn}
use Rattle.jr_mend.proofs.positions.starts_of.Given as goal

abbrev pub invariant-loop-k : goal.invariant-loop-k
invariant-loop-k l = (length l.segments.items ≡ l.k) × ((j : ℕ) (s : FileSegment) → j < l.k → IsNextIn l.copies 0 j (get_or l.segments.items j s))
