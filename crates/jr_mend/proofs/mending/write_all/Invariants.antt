use Rattle.std.specs.Vec.{vec_capacity}
use Rattle.jr_mend.proofs.NextPositions.{AreNextAt, HasSpace}
use Rattle.jr_mend.proofs.ScanOfCopies.{AreWritten}
use Rattle.jr_mend.proofs.mending.write_all.Given as goal

abbrev pub invariant-loop-i : goal.invariant-loop-i
invariant-loop-i l =
    AreNextAt l.copies l.segments.items l.i × AreWritten l.copies l.choices.items l.i l.fn.bytes.items l.bytes.items
    × HasSpace l.copies (vec_capacity l.buffers.chosen) × HasSpace l.copies (vec_capacity l.buffers.next)
