use Rattle.std.proofs.Common.{◌≡◌, length}
use Rattle.jr_code.specs.Code.{ArePairs}
use Rattle.jr_code.proofs.table.CodeTable.enter_pairs.Given as goal

abbrev pub invariant-loop-k : goal.invariant-loop-k
invariant-loop-k l = record { all : length l.pairs ≡ 2048; entered : ArePairs l.self l.pairs }
