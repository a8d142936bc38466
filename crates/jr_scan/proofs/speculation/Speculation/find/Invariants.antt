use Rattle.std.proofs.Common.{◌-◌, ◌≤◌, length}
use Rattle.jr_scan.proofs.speculation.Speculation.find.Given as goal

abbrev pub invariant-loop-low : goal.invariant-loop-low
invariant-loop-low l = record { within : l.high ≤ length l.self.mcus }

abbrev pub decreases-loop-low : goal.decreases-loop-low
decreases-loop-low l = l.high - l.low
