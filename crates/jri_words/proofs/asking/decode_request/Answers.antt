use Rattle.std.proofs.Common.{rules, Option, codes, map, ap, subst, ◌∙◌}
use Rattle.std.specs.String.{string_bytes}
use Rattle.std.proofs.lemmas.Result.{IfOk-weaker}
use Rattle.clap.specs.Words.{Text, app_of, first_value, found_of}
use Rattle.jri_words.specs.CommandLine.{IsFlag, IsTarget, file_named, reading}
use Rattle.jri_words.proofs.CommandLemmas.{found_value, found_reading, untaken}
use Rattle.jri_words.proofs.asking.decode_request.Goals as goal

pub returns-in-Ok-clause-file : goal.returns-in-Ok-clause-file
returns-in-Ok-clause-file c =
    let value = found_value c.in-Ok.matches (app_of c.in_ok-command.field-0) (map string_bytes c.args.words.now) c.in_ok-command.ensures c.in-Ok.ensures.matches (codes "file") in
    IfOk-weaker c.request_in.result _ _ (λ r h. h ∙ ap file_named value) c.request_in.ensures.file

pub returns-in-Ok-clause-target : goal.returns-in-Ok-clause-target
returns-in-Ok-clause-target c =
    let words = map string_bytes c.args.words.now in
    let app = app_of c.in_ok-command.field-0 in
    let m = c.in-Ok.matches in
    let force = found_reading m app words c.in_ok-command.ensures c.in-Ok.ensures.matches (codes "force") in
    let output = found_value m app words c.in_ok-command.ensures c.in-Ok.ensures.matches (codes "output") in
    IfOk-weaker c.request_in.result _ _
    (λ r h. subst (λ (t : Option Text). IsTarget t (reading (codes "force") words) r.asked.target) output
    (subst (λ (t : Option Text). IsTarget (first_value (found_of m) (codes "output")) t r.asked.target) force h))
    c.request_in.ensures.target

pub returns-in-Ok-clause-quiet : goal.returns-in-Ok-clause-quiet
returns-in-Ok-clause-quiet c =
    let value = found_reading c.in-Ok.matches (app_of c.in_ok-command.field-0) (map string_bytes c.args.words.now) c.in_ok-command.ensures c.in-Ok.ensures.matches (codes "quiet") in
    IfOk-weaker c.request_in.result _ _ (λ r h. subst (λ (t : Option Text). IsFlag t r.asked.verbosity.is_quiet) value h) c.request_in.ensures.quiet

pub returns-in-Ok-clause-verbose : goal.returns-in-Ok-clause-verbose
returns-in-Ok-clause-verbose c =
    let value = found_reading c.in-Ok.matches (app_of c.in_ok-command.field-0) (map string_bytes c.args.words.now) c.in_ok-command.ensures c.in-Ok.ensures.matches (codes "verbose") in
    IfOk-weaker c.request_in.result _ _ (λ r h. subst (λ (t : Option Text). IsFlag t r.asked.verbosity.is_verbose) value h) c.request_in.ensures.verbose

pub returns-in-Ok-clause-resync : goal.returns-in-Ok-clause-resync
returns-in-Ok-clause-resync c =
    let value = found_reading c.in-Ok.matches (app_of c.in_ok-command.field-0) (map string_bytes c.args.words.now) c.in_ok-command.ensures c.in-Ok.ensures.matches (codes "resync") in
    IfOk-weaker c.request_in.result _ _ (λ r h. subst (λ (t : Option Text). IsFlag t r.is_resync) value h) c.request_in.ensures.resync

pub returns-in-Err-clause-help : goal.returns-in-Err-clause-help
returns-in-Err-clause-help c =
    untaken (app_of c.in_ok-command.field-0) (map string_bytes c.args.words.now) c.in-Err.error c.refusal.result c.in_ok-command.ensures c.in-Err.ensures.passes c.refusal.ensures
