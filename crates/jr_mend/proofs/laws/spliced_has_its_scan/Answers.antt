use Rattle.jr_head.proofs.HeadStays.{header_stays}
use Rattle.jr_mend.specs.Splice.{coded_intervals}
use Rattle.jr_mend.proofs.Splices.{none_missing, scan_is}
use Rattle.jr_mend.proofs.laws.spliced_has_its_scan.Goals as goal

pub returns-clause-head : goal.returns-clause-head
returns-clause-head c = λ file h raws head small. header_stays file (coded_intervals raws) h head small

pub returns-clause-scan : goal.returns-clause-scan
returns-clause-scan c = scan_is

pub returns-clause-whole : goal.returns-clause-whole
returns-clause-whole c = none_missing
