use Rattle.std.proofs.Common.{◌≡◌, ◌≤◌, ◌+◌, ◌-◌, ◌*◌, ◌++◌, ℤ, List, length}
use Rattle.std.specs.List.{All}
use Rattle.jr_mcu.specs.Block.{IsInRange}
use Rattle.jr_scan.specs.McuReader.{HasRead, HasEnded, per_mcu}
use Rattle.jr_scan.proofs.mcu_reader.McuReader.skip_by.Given as goal

abbrev pub invariant-loop-done : goal.invariant-loop-done
invariant-loop-done l = record {
  run : l.self.run ≡ l.fn.self.run;
  mcu : l.self.mcu ≡ l.fn.self.mcu + l.done;
  few : l.self.mcu ≤ l.self.run.mcus;
  most : l.done ≤ l.most;
  passed : (zs : List (List ℤ)) → HasRead l.fn.self zs → (ys : List (List ℤ)) × (length ys ≡ l.done * per_mcu l.fn.self) × All IsInRange ys × HasRead l.self (zs ++ ys);
  stays : HasEnded l.fn.self → l.self ≡ l.fn.self;
}

abbrev pub decreases-loop-done : goal.decreases-loop-done
decreases-loop-done l = l.most - l.done
