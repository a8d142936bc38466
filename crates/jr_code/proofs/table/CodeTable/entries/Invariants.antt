use Rattle.std.proofs.Common.{◌≡◌, length}
use Rattle.jr_code.specs.Code.{AreEntriesTo}
use Rattle.jr_code.proofs.table.CodeTable.entries.Given as goal

abbrev pub invariant-loop-i : goal.invariant-loop-i
invariant-loop-i l = record { all : length l.entries ≡ 256; entered : AreEntriesTo l.self l.i l.entries }
