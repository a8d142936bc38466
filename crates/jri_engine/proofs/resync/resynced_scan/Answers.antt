use Rattle.std.proofs.Common.{rules, sym, subst, ℕ, List}
use Rattle.std.specs.Arc.{arc_value}
use Rattle.jr_head.specs.Heads.{HeadOf}
use Rattle.jr_mend.specs.Reading.{IsResyncFault, IsResynced}
use Rattle.jri_engine.specs.declared.resync.ResyncedScan.{ResyncedScan}
use Rattle.jri_engine.proofs.ResyncLemmas.{has_scan, of_memory}
use Rattle.jri_engine.proofs.resync.resynced_scan.Goals as goal

pub returns-in-Ok-clause-scan : goal.returns-in-Ok-clause-scan
returns-in-Ok-clause-scan c =
    has_scan (λ (r : ResyncedScan). arc_value r.scan) (λ (r : ResyncedScan). r.breaks.items) c.args.file.items c.args.head c.in-Ok.resynced c.requires (subst (λ (f : List ℕ). IsResynced f c.args.head c.in-Ok.resynced) c.deref-2.ensures.value c.in-Ok.ensures.resynced)
    c.cut_resynced.result c.cut_resynced.ensures.scan c.cut_resynced.ensures.breaks

pub returns-in-Err-clause-fault : goal.returns-in-Err-clause-fault
returns-in-Err-clause-fault c = c.fault_of.ensures c.args.file.items c.args.head c.requires (subst (λ (f : List ℕ). IsResyncFault f c.args.head c.in-Err.fault) c.deref-2.ensures.value c.in-Err.ensures.fault)

pub is_in_step-requires : goal.is_in_step-requires
is_in_step-requires c = subst (λ (f : List ℕ). HeadOf f c.args.head) (sym c.deref.ensures.value) c.requires

pub resynchronised-requires : goal.resynchronised-requires
resynchronised-requires c = subst (λ (f : List ℕ). HeadOf f c.args.head) (sym c.deref-2.ensures.value) c.requires

pub cut_in_step-requires-clause-head : goal.cut_in_step-requires-clause-head
cut_in_step-requires-clause-head c = c.requires

pub cut_in_step-requires-clause-in_step : goal.cut_in_step-requires-clause-in_step
cut_in_step-requires-clause-in_step c = search rules

pub cut_resynced-requires : goal.cut_resynced-requires
cut_resynced-requires c =
    let is = subst (λ (f : List ℕ). IsResynced f c.args.head c.in-Ok.resynced) c.deref-2.ensures.value c.in-Ok.ensures.resynced in
    search (rules, is.head)

pub returns-then-is_in_step-clause-scan : goal.returns-then-is_in_step-clause-scan
returns-then-is_in_step-clause-scan c = c.cut_in_step.ensures.scan

pub returns-then-is_in_step-clause-fault : goal.returns-then-is_in_step-clause-fault
returns-then-is_in_step-clause-fault c = of_memory c.args.file.items c.cut_in_step.result c.cut_in_step.ensures.fault

pub returns-in-Ok-clause-fault : goal.returns-in-Ok-clause-fault
returns-in-Ok-clause-fault c = of_memory c.args.file.items c.cut_resynced.result c.cut_resynced.ensures.fault
