use Rattle.jr_scan.specs.Speculation.{IsSpeculationOf}
use Rattle.jr_scan.proofs.speculation.Speculation.read.Given as goal

abbrev pub invariant-loop : goal.invariant-loop
invariant-loop l = record { of : IsSpeculationOf l.interval l.self }
