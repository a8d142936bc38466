use Rattle.jr_cut.proofs.EachCut.{each_scan_has_a_cut}
use Rattle.jr_cut.proofs.laws.each_scan_has_a_cut.Goals as goal

pub returns : goal.returns
returns c = each_scan_has_a_cut
