use Rattle.std.proofs.Common.{◌≡◌, ◌≢◌, ℕ, ◌+◌, ◌*◌, ◌<◌, [], length, slice_index, slice_index_or}
use Rattle.jr_rows.proofs.row_lines.store_rows.Given as goal

abbrev pub invariant-loop-row : goal.invariant-loop-row
invariant-loop-row l = record {
  long : length l.groups ≡ length l.initial.groups;
  rows : (row k : ℕ) → row < l.row → k < 8 → slice_index (slice_index_or l.groups (l.at + row * l.across) []) k ≡ slice_index l.unit (8 * row + k);
  others : (n : ℕ) → ((row : ℕ) → row < 8 → n ≢ l.at + row * l.across) → slice_index_or l.groups n [] ≡ slice_index_or l.initial.groups n [];
}
