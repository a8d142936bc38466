use Rattle.std.specs.List.{All}
use Rattle.jr_scan.specs.IntervalValue.{IntervalValue}
use Rattle.jr_wall.specs.Sharing.{IsEmptyOrOf}
use Rattle.jr_piece.specs.Strips.{AreOf, shared_strips}
use Rattle.jr_wall.proofs.gathered.all_of.Given as goal

abbrev pub invariant-loop-place : goal.invariant-loop-place
invariant-loop-place l = (i : IntervalValue) → All (IsEmptyOrOf i) l.fn.places → AreOf i (shared_strips l.strips.items)
