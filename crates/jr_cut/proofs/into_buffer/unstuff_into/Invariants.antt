use Rattle.std.proofs.Common.{◌≡◌, ◌-◌, ◌≤◌, length, take}
use Rattle.jr_cut.specs.Cut.{IsRaw}
use Rattle.jr_cut.proofs.into_buffer.unstuff_into.Given as goal

abbrev pub invariant-bytes : goal.invariant-bytes
invariant-bytes l = (l.read ≤ length l.raw) × (l.found ≤ length l.buffer) × (length l.buffer ≡ length l.fn.buffer) × IsRaw (take l.read l.raw) (take l.found l.buffer)

abbrev pub decreases-bytes : goal.decreases-bytes
decreases-bytes l = length l.raw - l.read
