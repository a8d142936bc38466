use Rattle.std.proofs.Common.{◌≡◌, ◌<◌, ◌≤◌, ℕ}
use Rattle.jr_picture.specs.declared.mark.Mark.TheVariants.{Blank}
use Rattle.jr_picture.specs.DecodedScan.{mark_at}
use Rattle.jr_wall.proofs.sweeping.is_left.Given as goal

abbrev pub invariant-loop-i : goal.invariant-loop-i
invariant-loop-i l = (k : ℕ) → l.n ≤ k → k < l.i → mark_at l.board k ≡ Blank
