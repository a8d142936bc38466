use Rattle.std.proofs.Common.{◌<◌, length}
use Rattle.jr_crew.proofs.sharing.open_slots.Given as goal

abbrev pub invariant-loop : goal.invariant-loop
invariant-loop g l = 0 < length l.slots.items
