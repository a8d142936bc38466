use Rattle.std.proofs.Common.{arith}
use Rattle.jr_mend.specs.Markers.{scan_markers}
use Rattle.jr_mend.proofs.MarkersLaw.{counted_few}
use Rattle.jr_mend.proofs.outlook.Outlook.of.Goals as goal

pub returns-clause-is : goal.returns-clause-is
returns-clause-is c = record {
  left = c.counts_of-counts.ensures.restarts;
  back = omega (arith, c.counted_back.ensures, counted_few c.args.intervals (scan_markers c.args.intervals c.args.bytes.now));
  ended = c.counts_of-counts.ensures.end;
}
