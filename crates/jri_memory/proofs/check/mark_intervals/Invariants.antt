use Rattle.std.proofs.Common.{◌≡◌, ◌+◌, List, length}
use Rattle.jr_picture.specs.declared.mark.Mark.{Mark}
use Rattle.jri_memory.specs.Checks.{AreStored}
use Rattle.jri_memory.proofs.check.mark_intervals.Given as goal

abbrev pub invariant-loop-i : goal.invariant-loop-i
invariant-loop-i l = ((ms : List Mark) × AreStored l.scan l.i l.marked l.marks ms) × (l.marked.sound + l.marked.damaged ≡ l.i) × (length l.marks ≡ length l.initial.marks)
