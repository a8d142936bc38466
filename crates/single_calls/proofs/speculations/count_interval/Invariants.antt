use Rattle.std.proofs.Common.{◌≡◌}
use Rattle.jr_scan.specs.ScanValue.{interval_of}
use Rattle.jr_scan.specs.Speculation.{IsSpeculationOf}
use Rattle.single_calls.proofs.speculations.count_interval.Given as goal

abbrev pub invariant-loop-k : goal.invariant-loop-k
invariant-loop-k l = (l.reader.run.interval ≡ interval_of l.scan l.number) × IsSpeculationOf (interval_of l.scan l.number) l.speculation
