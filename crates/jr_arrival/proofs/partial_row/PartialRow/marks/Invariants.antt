use Rattle.std.proofs.Common.{length}
use Rattle.jr_rows.specs.Rows.{CountsMarks}
use Rattle.jr_arrival.proofs.partial_row.PartialRow.marks.Given as goal

abbrev pub invariant-loop-i : goal.invariant-loop-i
invariant-loop-i l = CountsMarks l.scan.scan (length l.scan.scan.intervals) 0 l.i l.marked
