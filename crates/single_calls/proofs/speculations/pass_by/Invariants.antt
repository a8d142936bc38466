use Rattle.std.proofs.Common.{◌≡◌}
use Rattle.single_calls.proofs.speculations.pass_by.Given as goal

abbrev pub invariant-loop-mcu : goal.invariant-loop-mcu
invariant-loop-mcu l = l.reader.run ≡ l.fn.reader.run
