use Rattle.jr_code.specs.Bits.{bits_of}
use Rattle.jr_code.specs.Code.{Table, IsWord, ArePairs}
use Rattle.std.proofs.Common.{◌≡◌, length}
use Rattle.jr_code.proofs.words.enter_pair.Given as goal

abbrev pub invariant-loop-window : goal.invariant-loop-window
invariant-loop-window l = record {
  all : length l.pairs ≡ 2048;
  entered : (t : Table) → IsWord t (bits_of l.long l.code) l.symbol → ArePairs t l.fn.pairs → ArePairs t l.pairs;
}
