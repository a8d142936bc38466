use Rattle.std.proofs.Common.{◌≡◌, ◌≤◌, ◌+◌, ◌-◌, ◌*◌, ◌++◌, ℤ, List, length, take}
use Rattle.std.specs.List.{All}
use Rattle.jr_mcu.specs.Block.{IsInRange}
use Rattle.jr_scan.specs.McuReader.{HasRead, HasEnded, per_mcu}
use Rattle.jr_scan.proofs.mcu_reader.McuReader.read_by.Given as goal

abbrev pub invariant-loop-done : goal.invariant-loop-done
invariant-loop-done l = record {
  run : l.self.run ≡ l.fn.self.run;
  mcu : l.self.mcu ≡ l.fn.self.mcu + l.done;
  few : l.self.mcu ≤ l.self.run.mcus;
  space : length l.blocks ≡ length l.fn.blocks;
  fits : l.done * per_mcu l.fn.self ≤ length l.blocks;
  read : (zs : List (List ℤ)) → HasRead l.fn.self zs → HasRead l.self (zs ++ take (l.done * per_mcu l.fn.self) l.blocks);
  in_range : All IsInRange (take (l.done * per_mcu l.fn.self) l.blocks);
  stays : HasEnded l.fn.self → l.self ≡ l.fn.self;
}

abbrev pub decreases-loop-done : goal.decreases-loop-done
decreases-loop-done l = l.most - l.done
