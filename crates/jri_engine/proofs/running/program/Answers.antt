use Rattle.std.proofs.Common.{rules, ◌≡◌, ◌⊎◌, inl, inr, Bool, false, List, [], ℕ, Option, Result, IfErr, IsErr, is_ok, subst, sym}
use Rattle.std.proofs.lemmas.Result.{IfOk-weaker}
use Rattle.jri_words.specs.declared.answers.Target.{Target}
use Rattle.jri_words.specs.declared.answers.Target.TheVariants as target
use Rattle.jri_words.specs.declared.ending.Ending.{Ending}
use Rattle.jri_machine.specs.Steps.{Follow, Step}
use Rattle.jri_words.specs.Images.{Leaves, is_picture_status}
use Rattle.jri_words.proofs.StepLemmas.{none_yet, status_reports}
use Rattle.jri_engine.proofs.DecodingLemmas.{never}
use Rattle.jri_engine.proofs.running.program.Goals as goal
use Rattle.jri_engine.proofs.running.program.Goals.{in-Ok-opened+in-File, in-Ok-opened+in-Output, in-Err-opened}

-- nothing is done with a file for standard output, nor without an input
to_output : (are_devices : List ℕ → Type 0) (t : Target) (a b : Option (List Step)) (is_written : Bool) → (t ≡ target.Output) ⊎ (t ≡ target.AnyOutput) → Follow a b [] → Leaves are_devices t a b is_written
to_output are_devices t a b is_written (inl e) p = rw e p
to_output are_devices t a b is_written (inr e) p = rw e p

without_input : (are_devices : List ℕ → Type 0) (t : Target) (a b : Option (List Step)) → Follow a b [] → Leaves are_devices t a b false
without_input are_devices target.Output a b p = p
without_input are_devices target.AnyOutput a b p = p
without_input are_devices (target.File name) a b p = inl p

pub returns-clause-named : goal.returns-clause-named
returns-clause-named g c =
    let steps = g.D.Devices.steps in
    let old = steps c.args.devices.now in
    let new = steps c.match-opened.devices in
    let are_devices = g.D.Devices.are_devices c.args.devices.now in
    let target = c.in-Ok.request.asked.target in
    let stated = status_reports c.match-opened.ending.outcome c.report_ending-status.result c.report_ending-status.ensures.written c.report_ending-status.ensures.fault in
    let left : Leaves are_devices target old new (is_ok c.match-opened.ending.outcome) = elim c.match-opened.branch [
      | in-Ok-opened+in-File w ↦ search (rules, w.decode_to_file.ensures, w.devices-is, w.ending-is)
      | in-Ok-opened+in-Output w ↦ to_output are_devices target old new (is_ok c.match-opened.ending.outcome) w.in-Output.is (rw w.devices-is (none_yet old))
      | in-Err-opened w ↦ subst (λ (e : Ending). Leaves are_devices target old new (is_ok e.outcome)) (sym w.ending-is) (without_input are_devices target old new (rw w.devices-is (none_yet old)))
    ] in
    let named : Leaves are_devices target old new (is_picture_status c.report_ending-status.result) = subst (λ (b : Bool). Leaves are_devices target old new b) (sym stated) left in
    IfOk-weaker c.args.words _ _ (λ given is. inr (target, is, named)) c.in-Ok.ensures.target

pub returns-clause-untouched : goal.returns-clause-untouched
returns-clause-untouched g c = never c.args.words _ (subst (λ (u : Result _ _). IfErr c.args.words (λ _. IsErr u)) c.in-Ok.is c.understood.ensures.unasked)

pub returns-clause-unread : goal.returns-clause-unread
returns-clause-unread g c = never c.args.words _ (subst (λ (u : Result _ _). IfErr c.args.words (λ _. IsErr u)) c.in-Ok.is c.understood.ensures.unasked)
