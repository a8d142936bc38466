use Rattle.std.proofs.Common.{◌≡◌, ◌++◌, take}
use Rattle.jr_scan.proofs.interval.push_zigzag.Given as goal

abbrev pub invariant-loop-k : goal.invariant-loop-k
invariant-loop-k l = l.blocks.items ≡ l.fn.blocks.items ++ take l.k l.more
