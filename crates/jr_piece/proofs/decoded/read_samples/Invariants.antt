use Rattle.std.proofs.Common.{◌≡◌, ◌-◌, length, List}
use Rattle.std.specs.Prelude.{ℤ}
use Rattle.jr_scan.specs.McuReader.{HasRead}
use Rattle.jr_piece.specs.Outcome.{AreSamples}
use Rattle.jr_piece.proofs.decoded.read_samples.Given as goal

abbrev pub invariant-mcus : goal.invariant-mcus
invariant-mcus l = record {
  run : l.reader.run ≡ l.fn.reader.run;
  space : length l.blocks ≡ 64;
  empty : length l.empty ≡ 64;
  read : (zs : List (List ℤ)) × HasRead l.reader zs × AreSamples l.fn.reader.run.interval.head zs l.samples.items;
}

abbrev pub decreases-mcus : goal.decreases-mcus
decreases-mcus l = l.reader.run.mcus - l.reader.mcu
