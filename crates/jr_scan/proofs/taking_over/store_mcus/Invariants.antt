use Rattle.std.proofs.Common.{◌≡◌, ◌≤◌, ◌*◌, length, take}
use Rattle.std.specs.List.{All}
use Rattle.jr_mcu.specs.Block.{IsInDcRange}
use Rattle.jr_scan.specs.declared.place.RunEnd.TheVariants.{AllRead}
use Rattle.jr_scan.specs.Run.{IsRun, run_from}
use Rattle.jr_scan.proofs.taking_over.store_mcus.Given as goal

abbrev pub invariant-loop-k : goal.invariant-loop-k
invariant-loop-k l = record {
  space : length l.blocks ≡ length l.fn.blocks;
  run : IsRun (run_from l.interval l.fn.place l.k) (take (l.k * l.per_mcu) l.blocks) l.place AllRead;
  within : l.place.bit ≤ 8 * length l.interval.bytes;
  in_range : All IsInDcRange l.place.predictions;
}
