use Rattle.std.proofs.Common.{◌≡◌, length}
use Rattle.jr_wall.specs.DecodingValue.{AreNumbered}
use Rattle.jr_wall.proofs.strips.open_strips.Given as goal

abbrev pub invariant-loop-i : goal.invariant-loop-i
invariant-loop-i l = (length l.strips.items ≡ l.i) × AreNumbered l.strips.items
