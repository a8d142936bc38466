use Rattle.std.proofs.Common.{◌≡◌, length}
use Rattle.jr_code.specs.Code.{ArePairs}
use Rattle.jr_code.proofs.table.CodeTable.pairs.Given as goal

abbrev pub invariant-loop-i : goal.invariant-loop-i
invariant-loop-i l = record { all : length l.pairs ≡ 2048; entered : ArePairs l.self l.pairs }
