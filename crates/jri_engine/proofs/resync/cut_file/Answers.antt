use Rattle.std.proofs.Common.{sym, subst, ap, ◌∙◌}
use Rattle.jr_head.specs.Geometry.{IsValid}
use Rattle.jr_head.specs.Heads.{HeadOf}
use Rattle.jr_scan.specs.ScanValue.{ScanValue}
use Rattle.jri_file.specs.Files.{IsScanOfFile}
use Rattle.jri_engine.proofs.resync.cut_file.Goals as goal

pub returns-in-Ok-new-clause-head : goal.returns-in-Ok-new-clause-head
returns-in-Ok-new-clause-head c = ap (λ (s : ScanValue). s.head) c.in-Ok-new.ensures.ok ∙ c.in-Ok.ensures.head

pub returns-in-Ok-new-clause-scan : goal.returns-in-Ok-new-clause-scan
returns-in-Ok-new-clause-scan c =
    let file = c.args.file.items in
    subst (IsScanOfFile file) (sym c.in-Ok-new.ensures.ok)
    (record {
      head = subst (HeadOf file) (sym c.in-Ok.ensures.head) c.requires;
      valid = subst IsValid (sym c.in-Ok.ensures.head) c.assert_invariant.ensures;
      cut = c.in-Ok.ensures.cut;
    })
