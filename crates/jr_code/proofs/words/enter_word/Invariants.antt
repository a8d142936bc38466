use Rattle.std.proofs.Common.{ℕ, ◌≡◌, ◌≤◌, ◌<◌, length}
use Rattle.std.specs.Prelude.{slice_index_or, Some, None}
use Rattle.jr_code.proofs.words.enter_word.Given as goal

abbrev pub invariant-loop-byte : goal.invariant-loop-byte
invariant-loop-byte l = record {
  all : length l.entries ≡ 256;
  inside : (b : ℕ) → b < l.byte → l.first ≤ b → slice_index_or l.entries b None ≡ Some (l.symbol, l.long);
  before : (b : ℕ) → b < l.first → slice_index_or l.entries b None ≡ slice_index_or l.fn.entries b None;
  after : (b : ℕ) → l.byte ≤ b → slice_index_or l.entries b None ≡ slice_index_or l.fn.entries b None;
}
