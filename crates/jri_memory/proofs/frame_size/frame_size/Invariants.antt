use Rattle.std.proofs.Common.{length}
use Rattle.jri_memory.proofs.Sizes.{HasRead}
use Rattle.jri_memory.proofs.frame_size.frame_size.Given as goal

abbrev pub invariant-segments : goal.invariant-segments
invariant-segments l = HasRead l.file l.rest

abbrev pub decreases-segments : goal.decreases-segments
decreases-segments l = length l.rest
