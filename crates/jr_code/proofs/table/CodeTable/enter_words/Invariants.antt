use Rattle.std.proofs.Common.{ℕ, ◌≡◌, ◌≢◌, ◌<◌, ◌+◌, ◌-◌, ◌/◌, ◌^◌, length}
use Rattle.std.specs.Prelude.{slice_index_or, None}
use Rattle.jr_code.specs.Code.{AreEntriesTo}
use Rattle.jr_code.proofs.table.CodeTable.enter_words.Given as goal

abbrev pub invariant-loop-k : goal.invariant-loop-k
invariant-loop-k l = record {
  all : length l.entries ≡ 256;
  entered : AreEntriesTo l.self l.i l.entries;
  none : (b : ℕ) → b < 256 → slice_index_or l.entries b None ≡ None → (m : ℕ) → m < l.k → b / 2 ^ (8 - (l.i + 1)) ≢ l.first + m;
}
