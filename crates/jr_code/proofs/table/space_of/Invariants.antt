use Rattle.std.proofs.Common.{◌≡◌, ◌*◌, ◌≤◌, take}
use Rattle.jr_code.specs.Code.{space, lengths}
use Rattle.jr_code.proofs.table.space_of.Given as goal

abbrev pub invariant-loop-i : goal.invariant-loop-i
invariant-loop-i l = record { space_is : l.space ≡ space (lengths (take l.i l.counts)); ample : l.space ≤ 8355840 * l.i }
