use Rattle.std.proofs.Common.{Err, refl, ap, ◌∙◌}
use Rattle.std.specs.Arc.{arc_value}
use Rattle.jr_base.specs.Tally.{known_in}
use Rattle.jr_picture.specs.declared.report.Fault.TheVariants as fault
use Rattle.jri_engine.specs.declared.resync.ResyncedScan.{ResyncedScan}
use Rattle.jri_engine.proofs.ResyncLemmas.{not_err, not_unread, own_fault, read_fault, read_scan, same_fault}
use Rattle.jri_engine.proofs.resync.read_resynced.Goals as goal

pub resynced_scan-requires : goal.resynced_scan-requires
resynced_scan-requires g c = c.in-Ok.ensures.head

pub returns-in-Ok-clause-scan : goal.returns-in-Ok-clause-scan
returns-in-Ok-clause-scan g c =
    read_scan (known_in g.R.Read.remaining c.args.input.now) c.in-Ok.file.items c.in-Ok.ensures.file (λ (r : ResyncedScan). arc_value r.scan) (λ (r : ResyncedScan). r.breaks.items) c.resynced_scan.result c.resynced_scan.ensures.scan

pub returns-in-Ok-clause-fault : goal.returns-in-Ok-clause-fault
returns-in-Ok-clause-fault g c = read_fault (known_in g.R.Read.remaining c.args.input.now) c.in-Ok.file.items c.in-Ok.ensures.file c.resynced_scan.result c.resynced_scan.ensures.fault

pub returns-in-Ok-clause-failed : goal.returns-in-Ok-clause-failed
returns-in-Ok-clause-failed g c is = absurd (not_unread c.in-Ok.file.items c.resynced_scan.result c.resynced_scan.ensures.fault is)

pub returns-in-Ok-clause-unfailed : goal.returns-in-Ok-clause-unfailed
returns-in-Ok-clause-unfailed g c _ = c.read_file.ensures.unfailed (not_err c.read_file.result _ fault.Read c.in-Ok.is)

pub returns-in-Err-clause-fault : goal.returns-in-Err-clause-fault
returns-in-Err-clause-fault g c = own_fault (known_in g.R.Read.remaining c.args.input.now) c.in-Err.fault c.in-Err.ensures.fault

pub returns-in-Err-clause-failed : goal.returns-in-Err-clause-failed
returns-in-Err-clause-failed g c is = c.read_file.ensures.failed (c.in-Err.is ∙ ap Err (same_fault _ c.in-Err.fault fault.Read refl is))

pub returns-in-Err-clause-unfailed : goal.returns-in-Err-clause-unfailed
returns-in-Err-clause-unfailed g c not = c.read_file.ensures.unfailed (λ e. not (ap Err (same_fault c.read_file.result c.in-Err.fault fault.Read c.in-Err.is e)))
