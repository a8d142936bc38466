use Rattle.std.proofs.Common.{◌≡◌, ◌≤◌, length, take, drop}
use Rattle.jr_cut.specs.Spans.{Unstuffs}
use Rattle.jr_cut.proofs.unstuff.Unstuffing.unstuff.Given as goal

abbrev pub invariant-bytes : goal.invariant-bytes
invariant-bytes l = (l.at ≤ length l.fn.self.rest) × (l.self.rest ≡ drop l.at l.fn.self.rest) × Unstuffs (take l.at l.fn.self.rest) l.fn.self.unstuffed l.self.unstuffed

abbrev pub decreases-bytes : goal.decreases-bytes
decreases-bytes l = length l.self.rest
