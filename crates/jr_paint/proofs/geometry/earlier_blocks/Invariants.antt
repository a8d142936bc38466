use Rattle.std.proofs.Common.{◌≡◌}
use Rattle.jr_head.specs.Geometry.{blocks_before}
use Rattle.jr_paint.proofs.geometry.earlier_blocks.Given as goal

abbrev pub invariant-loop-j : goal.invariant-loop-j
invariant-loop-j l = l.sum ≡ blocks_before l.head l.j
