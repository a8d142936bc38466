use Rattle.std.proofs.Common.{◌≡◌, ◌++◌, length}
use Rattle.jr_segments.specs.Frames.{components_in}
use Rattle.jr_segments.proofs.frame.read_components.Given as goal

abbrev pub invariant-loop-rest : goal.invariant-loop-rest
invariant-loop-rest l = l.components.items ++ components_in l.rest ≡ components_in l.bytes

abbrev pub decreases-loop-rest : goal.decreases-loop-rest
decreases-loop-rest l = length l.rest
