use Rattle.std.proofs.Common.{◌≡◌, ◌+◌, ◌++◌, ℤ, List, IsTrue, length, take}
use Rattle.jr_mcu.proofs.InMcu.{InMcu}
use Rattle.jr_mcu.proofs.mcu.read_mcu.Given as goal

abbrev pub invariant-loop-k : goal.invariant-loop-k
invariant-loop-k g l = record {
  space : length l.blocks ≡ length l.fn.blocks;
  taken : (zs : List (List ℤ)) × (l.k ≡ length zs) × InMcu l.head l.fn.predictions l.fn.bits l.left l.last zs × (IsTrue g.S.BlockSink.keeps → take (l.start + l.k) l.blocks ≡ take l.start l.fn.blocks ++ zs);
}
