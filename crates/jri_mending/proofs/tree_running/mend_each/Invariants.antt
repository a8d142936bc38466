use Rattle.std.specs.String.{string_bytes}
use Rattle.jri_mending.specs.Making.{MakesWithin}
use Rattle.jri_mending.proofs.tree_running.mend_each.Given as goal

abbrev pub invariant-loop : goal.invariant-loop
invariant-loop g l = MakesWithin (string_bytes l.request.directory) (g.D.Devices.steps l.initial.devices) (g.D.Devices.steps l.devices)
