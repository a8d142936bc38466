use Rattle.jr_mend.proofs.EachResync as laws
use Rattle.jr_mend.proofs.laws.each_scan_resyncs.Goals as goal

pub returns : goal.returns
returns c = laws.each_scan_resyncs
