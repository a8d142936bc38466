use Rattle.std.proofs.Common.{◌-◌, length}
use Rattle.jr_mend.specs.Reading.{HasResyncedTo}
use Rattle.jr_mend.proofs.reading.Reading.read_on.Given as goal

abbrev pub invariant-markers : goal.invariant-markers
invariant-markers l = HasResyncedTo l.file l.head l.self

abbrev pub decreases-markers : goal.decreases-markers
decreases-markers l = length l.file - l.self.at
