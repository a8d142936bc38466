use Rattle.std.proofs.Common.{◌≢◌, rules}
use Rattle.jr_mend.specs.Reading.{IsFileInStep}
use Rattle.jri_memory.proofs.ReadAs.{own, resynced}
use Rattle.jri_memory.proofs.file_scan.scan_of.Goals as goal
use Rattle.jri_memory.proofs.file_scan.scan_of.Goals.{then-resync-eq0-via-then-resync-eq0, then-resync-eq0-via-else-resync-eq0+then-is_in_step}

pub returns-then-resync-eq0-clause-scan : goal.returns-then-resync-eq0-clause-scan
returns-then-resync-eq0-clause-scan c =
    let why : c.args.resync ≢ 0 → IsFileInStep c.args.file.now c.in-Ok.head =
    elim c.then-resync-eq0.branch [
      | then-resync-eq0-via-then-resync-eq0 w ↦ λ some. absurd (some (search (rules, w.if-resync-eq0.true)))
      | then-resync-eq0-via-else-resync-eq0+then-is_in_step w ↦ λ some. search (rules, w.is_in_step.ensures, w.if-is_in_step.true)
    ]
    in
    own c.args.file.now c.args.resync c.in-Ok.head c.own_scan.result why c.own_scan.ensures.head c.own_scan.ensures.scan

pub returns-clause-scan : goal.returns-clause-scan
returns-clause-scan c = resynced c.args.file.now c.args.resync c.resynced_scan.result (search (rules, c.if-resync-eq0.false)) c.resynced_scan.ensures.scan
