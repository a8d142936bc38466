use Rattle.std.proofs.Common.{◌+◌, ◌*◌, ◌≤◌, length}
use Rattle.std.specs.Vec.{vec_capacity}
use Rattle.jr_cut.specs.PartialSegments.{AreOpen, HaveAll}
use Rattle.jr_cut.proofs.partial_segments.PartialSegments.read_on.Given as goal

abbrev pub invariant-segments : goal.invariant-segments
invariant-segments l = AreOpen l.self × HaveAll l.initial.self l.self × (2 * length l.self.spans.items + length l.self.bytes.rest ≤ 2 * length l.initial.self.spans.items + length l.initial.self.bytes.rest) × (vec_capacity l.initial.self.spans ≤ vec_capacity l.self.spans)

abbrev pub decreases-segments : goal.decreases-segments
decreases-segments l = length l.self.bytes.rest
