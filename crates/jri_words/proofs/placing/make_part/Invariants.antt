use Rattle.std.proofs.Common.{[]}
use Rattle.jri_machine.specs.Steps.{Follow}
use Rattle.jri_words.proofs.placing.make_part.Given as goal

abbrev pub invariant-loop-number : goal.invariant-loop-number
invariant-loop-number g l = Follow (g.D.Devices.steps l.initial.devices) (g.D.Devices.steps l.devices) []
