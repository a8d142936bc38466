use Rattle.std.proofs.Common.{◌≡◌, drop}
use Rattle.jr_segments.specs.Frames.{has_repeats}
use Rattle.jr_segments.proofs.frame.has_repeats.Given as goal

abbrev pub invariant-loop-i : goal.invariant-loop-i
invariant-loop-i l = has_repeats (drop l.i l.components) ≡ has_repeats l.components
