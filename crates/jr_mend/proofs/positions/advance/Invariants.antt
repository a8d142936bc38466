use Rattle.std.proofs.Common.{◌≡◌, ℕ, ◌+◌, ◌<◌, ◌≤◌, length, get_or}
use Rattle.jr_cut.specs.declared.file_segments.FileSegment.{FileSegment}
use Rattle.jr_mend.proofs.NextPositions.{IsNextIn, IsSegmentIn}
use Rattle.jr_mend.proofs.positions.advance.Given as goal

abbrev pub invariant-loop-k : goal.invariant-loop-k
invariant-loop-k l =
    (length l.segments ≡ length l.copies)
    × ((j : ℕ) (s : FileSegment) → j < l.k → IsSegmentIn l.copies l.i j (get_or l.segments j s) × IsNextIn l.copies (l.i + 1) j (get_or l.segments j s))
    × ((j : ℕ) (s : FileSegment) → l.k ≤ j → j < length l.copies → IsNextIn l.copies l.i j (get_or l.segments j s))
