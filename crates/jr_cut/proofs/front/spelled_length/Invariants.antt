use Rattle.std.proofs.Common.{◌≡◌, ◌-◌, ◌≤◌, ℕ, List, length, take}
use Rattle.jr_cut.specs.Cut.{IsRaw}
use Rattle.jr_cut.proofs.front.spelled_length.Given as goal

abbrev pub invariant-bytes : goal.invariant-bytes
invariant-bytes l = (l.at ≤ length l.bytes) × (l.found ≤ l.count) × ((spelled : List ℕ) × (length spelled ≡ l.found) × IsRaw (take l.at l.bytes) spelled)

abbrev pub decreases-bytes : goal.decreases-bytes
decreases-bytes l = length l.bytes - l.at
