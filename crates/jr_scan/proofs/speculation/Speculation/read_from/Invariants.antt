use Rattle.jr_scan.specs.Speculation.{AreLastBits, IsSpeculationOf}
use Rattle.jr_scan.proofs.speculation.Speculation.read_from.Given as goal

abbrev pub invariant-loop : goal.invariant-loop
invariant-loop l = record {
  of : IsSpeculationOf l.interval l.self;
  bits : AreLastBits l.interval l.left;
}
