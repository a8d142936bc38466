use Rattle.std.proofs.Common.{◌≤◌, ◌*◌, ℤ, List, length}
use Rattle.std.specs.List.{All}
use Rattle.jr_mcu.specs.Block.{IsInDcRange}
use Rattle.jr_scan.specs.declared.place.RunEnd.TheVariants.{AllRead}
use Rattle.jr_scan.specs.Run.{IsRun, run_from}
use Rattle.jr_scan.proofs.taking_over.pass_mcus.Given as goal

abbrev pub invariant-loop-k : goal.invariant-loop-k
invariant-loop-k l = record {
  run : (ys : List (List ℤ)) × IsRun (run_from l.interval l.fn.place l.k) ys l.place AllRead;
  within : l.place.bit ≤ 8 * length l.interval.bytes;
  in_range : All IsInDcRange l.place.predictions;
}
