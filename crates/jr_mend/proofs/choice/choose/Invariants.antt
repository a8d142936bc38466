use Rattle.std.proofs.Common.{take}
use Rattle.std.specs.Vec.{vec_capacity}
use Rattle.jr_scan.specs.IntervalValue.{IntervalValue}
use Rattle.jr_mend.specs.Choice.{IsChoiceOf}
use Rattle.jr_mend.specs.Copies.{versions_of}
use Rattle.jr_mend.proofs.NextPositions.{HasSpace}
use Rattle.jr_mend.proofs.choice.choose.Given as goal

abbrev pub invariant-loop-number : goal.invariant-loop-number
invariant-loop-number l = ((v : IntervalValue) × IsChoiceOf (versions_of (take l.number l.copies) l.i) v l.choice) × HasSpace l.copies (vec_capacity l.buffers.chosen) × HasSpace l.copies (vec_capacity l.buffers.next)
