use Rattle.std.proofs.Common.{◌≡◌, ◌≢◌, ◌<◌, ◌≤◌, ℕ, length}
use Rattle.jr_scan.specs.ScanValue.{IsSameScan}
use Rattle.jr_picture.specs.declared.mark.Mark.TheVariants.{Blank}
use Rattle.jr_picture.specs.DecodedScan.{mark_at}
use Rattle.jr_wall.proofs.sweeping.sweep.Given as goal

abbrev pub invariant-loop-i : goal.invariant-loop-i
invariant-loop-i l = record {
  scan : IsSameScan l.board.scan l.scan;
  places : length l.board.pieces ≡ length l.scan.intervals;
  marked : (k : ℕ) → k < l.i → mark_at l.board k ≢ Blank;
  blank : (k : ℕ) → l.n ≤ k → mark_at l.board k ≡ Blank;
}
