use Rattle.std.proofs.Common.{◌≡◌, ◌+◌, ◌*◌, ℤ, List, IsTrue, length, take}
use Rattle.jr_scan.specs.declared.place.RunEnd.TheVariants.{AllRead}
use Rattle.jr_scan.specs.Run.{IsRun, run_from}
use Rattle.jr_scan.specs.McuReader.{IsMcuReader}
use Rattle.jr_scan.proofs.McuReaders.{value_of}
use Rattle.jr_scan.proofs.mcu_reader.McuReader.take_mcus.Given as goal

abbrev pub invariant-loop-k : goal.invariant-loop-k
invariant-loop-k g l = record {
  lasts : IsMcuReader (value_of l.self-inside) l.self-inside.bits;
  run : (value_of l.self-inside).run ≡ l.fn.self.run;
  mcu : l.self-inside.mcu ≡ l.fn.self.mcu + l.k;
  space : length l.blocks ≡ length l.fn.blocks;
  start : l.k ≡ 0 → value_of l.self-inside ≡ l.fn.self;
  taken : (zs : List (List ℤ)) × IsRun (run_from l.fn.self.run.interval l.fn.self.place l.k) zs (value_of l.self-inside).place AllRead × (IsTrue g.S.BlockSink.keeps → take (l.k * l.per_mcu) l.blocks ≡ zs);
}
