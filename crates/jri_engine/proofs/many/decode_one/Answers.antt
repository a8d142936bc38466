use Rattle.std.proofs.Common.{ℕ, Bool, List, [], ◌∷◌, ◌++◌, Result, Err, refl, subst, sym}
use Rattle.std.specs.String.{string_bytes}
use Rattle.jr_picture.specs.declared.report.Report.{Report}
use Rattle.jr_picture.specs.declared.report.Fault.{Fault}
use Rattle.jr_picture.specs.declared.report.Fault.TheVariants as fault
use Rattle.jri_machine.specs.declared.devices.Existing.TheVariants.{Kept}
use Rattle.jri_machine.specs.Steps.{IsInDirectory, LeavesFile}
use Rattle.jri_words.proofs.StepLemmas.{none_yet, status_reports, undone}
use Rattle.jri_engine.proofs.many.decode_one.Goals as goal

pub returns-in_default : goal.returns-in_default
returns-in_default g c =
    let old = g.D.Devices.steps c.args.devices.now in
    let directory = string_bytes c.args.request.now.directory in
    let outcome : Result Report Fault = Err fault.Memory in
    let stated = status_reports outcome c.report_ending.result c.report_ending.ensures.written c.report_ending.ensures.fault in
    let left = undone (λ _. ⊥) Kept (directory ++ 47 ∷ []) old old outcome (none_yet old) refl in
    (directory ++ 47 ∷ [], ([], refl), subst (λ (b : Bool). LeavesFile (λ _. ⊥) Kept (directory ++ 47 ∷ []) old old b) (sym stated) left)

pub returns : goal.returns
returns g c =
    let old = g.D.Devices.steps c.args.devices.now in
    let new = g.D.Devices.steps c.decode_into_new-ending.new.devices in
    let name = c.as_str-2.result.now in
    let is_in : IsInDirectory (string_bytes c.args.request.now.directory) name =
    subst (λ (n : List ℕ). IsInDirectory (string_bytes c.args.request.now.directory) n) (sym c.as_str-2.ensures.value)
    (subst (λ (d : List ℕ). IsInDirectory d (string_bytes c.in-Ok.image)) c.as_str.ensures.value c.in-Ok.ensures) in
    let stated = status_reports c.decode_into_new-ending.result.outcome c.report_ending-2.result c.report_ending-2.ensures.written c.report_ending-2.ensures.fault in
    (name, is_in, subst (λ (b : Bool). LeavesFile (λ _. ⊥) Kept name old new b) (sym stated) c.decode_into_new-ending.ensures)
