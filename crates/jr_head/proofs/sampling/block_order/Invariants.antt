use Rattle.std.proofs.Common.{◌≡◌, take}
use Rattle.jr_head.specs.Geometry.{order_from}
use Rattle.jr_head.proofs.sampling.block_order.Given as goal

abbrev pub invariant-loop-c : goal.invariant-loop-c
invariant-loop-c l = record { at : l.number ≡ l.c-index; so_far : l.order.items ≡ order_from 0 (take l.c-index l.components) }
