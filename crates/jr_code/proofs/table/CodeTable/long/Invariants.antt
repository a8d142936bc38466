use Rattle.std.proofs.Common.{◌≡◌, ◌+◌, ◌*◌, ◌<◌, ℕ, take, length}
use Rattle.std.specs.Prelude.{slice_index_or, sum}
use Rattle.jr_code.specs.Code.{extent, space, lengths}
use Rattle.jr_code.proofs.table.CodeTable.long.Given as goal

abbrev pub invariant-loop-k : goal.invariant-loop-k
invariant-loop-k l = record {
  all : length l.long ≡ 8;
  done : (b : ℕ) → b < l.k
      → ((slice_index_or l.long b (0, 0)).0 * extent (b + 9) ≡ space (lengths (take (b + 8) l.self.counts))) × ((slice_index_or l.long b (0, 0)).1 ≡ sum (take (b + 8) l.self.counts));
}
