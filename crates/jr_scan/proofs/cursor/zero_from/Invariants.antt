use Rattle.std.proofs.Common.{◌≡◌, ℕ, ◌<◌, ◌≤◌, [], get_or}
use Rattle.jr_scan.specs.Cursors.{zero_block}
use Rattle.jr_scan.proofs.cursor.zero_from.Given as goal

abbrev pub invariant-loop-k : goal.invariant-loop-k
invariant-loop-k l = record {
  kept : (j : ℕ) → j < l.first → get_or l.blocks j [] ≡ get_or l.fn.blocks j [];
  zeros : (j : ℕ) → l.first ≤ j → j < l.k → get_or l.blocks j [] ≡ zero_block;
}
