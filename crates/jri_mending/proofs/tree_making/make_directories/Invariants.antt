use Rattle.jri_mending.specs.Making.{MakesWithin}
use Rattle.jri_mending.proofs.tree_making.make_directories.Given as goal

abbrev pub invariant-loop-at : goal.invariant-loop-at
invariant-loop-at g l = MakesWithin l.directory (g.D.Devices.steps l.initial.devices) (g.D.Devices.steps l.devices)
