use Rattle.std.proofs.Common.{◌≡◌, ◌≤◌, ◌*◌, take}
use Rattle.jr_segments.specs.Frames.{blocks}
use Rattle.jr_segments.proofs.frame.block_count.Given as goal

abbrev pub invariant-loop-c : goal.invariant-loop-c
invariant-loop-c l = record { sum_is : l.blocks ≡ blocks (take l.c-index l.components); small : l.blocks ≤ 65025 * l.c-index }
