use Rattle.std.proofs.Common.{◌-◌, length}
use Rattle.jr_mend.proofs.DueMarkers.{AreDueTo}
use Rattle.jr_mend.proofs.in_step.ends_with_image.Given as goal

abbrev pub invariant-segments : goal.invariant-segments
invariant-segments l = AreDueTo l.intervals l.bytes l.at l.k

abbrev pub decreases-segments : goal.decreases-segments
decreases-segments l = length l.bytes - l.at
