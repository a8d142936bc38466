use Rattle.std.proofs.Common.{◌≡◌, ◌-◌, length}
use Rattle.jr_scan.specs.Run.{whole_run}
use Rattle.jr_scan.specs.McuReader.{HasRead}
use Rattle.jr_scan.proofs.interval.Interval.read_blocks.Given as goal

abbrev pub invariant-mcus : goal.invariant-mcus
invariant-mcus l = record {
  run : l.reader.run ≡ whole_run l.self;
  space : length l.next ≡ 10;
  read : HasRead l.reader l.blocks.items;
}

abbrev pub decreases-mcus : goal.decreases-mcus
decreases-mcus l = l.reader.run.mcus - l.reader.mcu
