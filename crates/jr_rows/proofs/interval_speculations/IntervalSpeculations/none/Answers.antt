use Rattle.jr_scan.specs.ScanValue.{interval_of}
use Rattle.jr_rows.proofs.interval_speculations.IntervalSpeculations.none.Goals as goal

pub returns : goal.returns
returns c = λ s. c.of.ensures s (c.none.ensures (interval_of s 0))
