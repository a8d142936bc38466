use Rattle.std.proofs.Common.{◌≡◌, false, Err, Result, OnOk, subst, refl, sym, ap, ◌∙◌, rules}
use Rattle.std.proofs.lemmas.Result.{err_from_is_err_and}
use Rattle.std.specs.Arc.{arc_value}
use Rattle.jr_base.specs.Tally.{has_failed, known_in}
use Rattle.jr_picture.specs.declared.report.Fault.{Fault}
use Rattle.jr_picture.specs.declared.report.Fault.TheVariants as fault
use Rattle.jri_engine.specs.declared.resync.ResyncedReport.{ResyncedReport}
use Rattle.jri_engine.proofs.PaintsLemmas.{IsOfWriting, of_writing}
use Rattle.jri_engine.proofs.ResyncLemmas.{begins, not_err, not_missing, not_write, paints, refuses, same_fault}
use Rattle.jri_engine.proofs.resync.run_resynced.Goals as goal

pub returns-in_err-resynced-clause-begun : goal.returns-in_err-resynced-clause-begun
returns-in_err-resynced-clause-begun g c is =
    let gave = err_from_is_err_and c.from_residual.result c.from_residual.ensures.1 in
    let stated : c.from_residual.result ≡ Err c.in_err-resynced.field-0.0 = gave.1 ∙ ap Err gave.2 in
    absurd (not_write (known_in g.R.Read.remaining c.args.input.now) c.from_residual.result _ stated c.in_err-resynced.ensures.fault is)

pub returns-in_err-resynced-clause-refused : goal.returns-in_err-resynced-clause-refused
returns-in_err-resynced-clause-refused g c f is =
    let gave = err_from_is_err_and c.from_residual.result c.from_residual.ensures.1 in
    let stated : c.from_residual.result ≡ Err c.in_err-resynced.field-0.0 = gave.1 ∙ ap Err gave.2 in
    refuses (known_in g.R.Read.remaining c.args.input.now) c.from_residual.result _ stated c.in_err-resynced.ensures.fault f is

pub returns-in_err-resynced-clause-read_all : goal.returns-in_err-resynced-clause-read_all
returns-in_err-resynced-clause-read_all g c not =
    let gave = err_from_is_err_and c.from_residual.result c.from_residual.ensures.1 in
    let stated : c.from_residual.result ≡ Err c.in_err-resynced.field-0.0 = gave.1 ∙ ap Err gave.2 in
    c.read_resynced.ensures.unfailed (λ e. not (stated ∙ ap Err (same_fault c.read_resynced.result _ fault.Read c.in_err-resynced.was e)))

pub returns-in_err-resynced-clause-read : goal.returns-in_err-resynced-clause-read
returns-in_err-resynced-clause-read g c is =
    let gave = err_from_is_err_and c.from_residual.result c.from_residual.ensures.1 in
    let stated : c.from_residual.result ≡ Err c.in_err-resynced.field-0.0 = gave.1 ∙ ap Err gave.2 in
    c.read_resynced.ensures.failed (c.in_err-resynced.was ∙ ap Err (same_fault c.from_residual.result _ fault.Read stated is))

pub returns-in_err-resynced-clause-write : goal.returns-in_err-resynced-clause-write
returns-in_err-resynced-clause-write g c is =
    let gave = err_from_is_err_and c.from_residual.result c.from_residual.ensures.1 in
    let stated : c.from_residual.result ≡ Err c.in_err-resynced.field-0.0 = gave.1 ∙ ap Err gave.2 in
    absurd (not_write (known_in g.R.Read.remaining c.args.input.now) c.from_residual.result _ stated c.in_err-resynced.ensures.fault is)

pub returns-in_err-resynced-clause-opened : goal.returns-in_err-resynced-clause-opened
returns-in_err-resynced-clause-opened g c is =
    let gave = err_from_is_err_and c.from_residual.result c.from_residual.ensures.1 in
    let stated : c.from_residual.result ≡ Err c.in_err-resynced.field-0.0 = gave.1 ∙ ap Err gave.2 in
    not_missing (known_in g.R.Read.remaining c.args.input.now) c.from_residual.result _ stated c.in_err-resynced.ensures.fault is

pub returns-in_err-resynced-clause-written : goal.returns-in_err-resynced-clause-written
returns-in_err-resynced-clause-written g c =
    let gave = err_from_is_err_and c.from_residual.result c.from_residual.ensures.1 in
    let stated : c.from_residual.result ≡ Err c.in_err-resynced.field-0.0 = gave.1 ∙ ap Err gave.2 in
    subst (λ (r : Result ResyncedReport Fault). OnOk r (has_failed c.args.out.now ≡ false)) (sym stated) tt

pub returns-in_err-resynced-clause-untouched_read : goal.returns-in_err-resynced-clause-untouched_read
returns-in_err-resynced-clause-untouched_read g c = search rules

pub returns-in_err-resynced-clause-untouched_memory : goal.returns-in_err-resynced-clause-untouched_memory
returns-in_err-resynced-clause-untouched_memory g c = search rules

pub returns-in_err-resynced-clause-untouched_refused : goal.returns-in_err-resynced-clause-untouched_refused
returns-in_err-resynced-clause-untouched_refused g c = search rules

pub returns-in-Ok-clause-painted : goal.returns-in-Ok-clause-painted
returns-in-Ok-clause-painted g c =
    paints _ c.args.first (arc_value c.in_ok-resynced.resynced.scan) _ _ _ c.in-Ok.ensures.painted c.in_ok-resynced.ensures.scan

pub returns-in-Ok-clause-begun : goal.returns-in-Ok-clause-begun
returns-in-Ok-clause-begun g c is = absurd (not_err _ _ _ refl is)

pub returns-in-Ok-clause-refused : goal.returns-in-Ok-clause-refused
returns-in-Ok-clause-refused g c f is = absurd (not_err _ _ _ refl is)

pub returns-in-Ok-clause-read : goal.returns-in-Ok-clause-read
returns-in-Ok-clause-read g c is = absurd (not_err _ _ _ refl is)

pub returns-in-Ok-clause-write : goal.returns-in-Ok-clause-write
returns-in-Ok-clause-write g c is = absurd (not_err _ _ _ refl is)

pub returns-in-Ok-clause-untouched_read : goal.returns-in-Ok-clause-untouched_read
returns-in-Ok-clause-untouched_read g c is = absurd (not_err _ _ _ refl is)

pub returns-in-Ok-clause-untouched_refused : goal.returns-in-Ok-clause-untouched_refused
returns-in-Ok-clause-untouched_refused g c f is = absurd (not_err _ _ _ refl is)

pub returns-in-Ok-clause-untouched_memory : goal.returns-in-Ok-clause-untouched_memory
returns-in-Ok-clause-untouched_memory g c is = absurd (not_err _ _ _ refl is)

pub returns-in-Ok-clause-opened : goal.returns-in-Ok-clause-opened
returns-in-Ok-clause-opened g c is = not_err _ _ _ refl is

pub returns-in-Ok-clause-read_all : goal.returns-in-Ok-clause-read_all
returns-in-Ok-clause-read_all g c _ = c.read_resynced.ensures.unfailed (not_err c.read_resynced.result _ fault.Read c.in_ok-resynced.was)

pub returns-in-Ok-clause-written : goal.returns-in-Ok-clause-written
returns-in-Ok-clause-written g c = c.in-Ok.ensures.written

pub returns-in-Err-clause-begun : goal.returns-in-Err-clause-begun
returns-in-Err-clause-begun g c is =
    let stopped = c.in-Err.is ∙ ap Err (same_fault _ c.in-Err.fault fault.Write refl is) in
    begins _ c.args.first (arc_value c.in_ok-resynced.resynced.scan) _ _ _ (λ file scan. c.write_image.ensures.begun file scan stopped) c.in_ok-resynced.ensures.scan

pub returns-in-Err-clause-read_all : goal.returns-in-Err-clause-read_all
returns-in-Err-clause-read_all g c _ = c.read_resynced.ensures.unfailed (not_err c.read_resynced.result _ fault.Read c.in_ok-resynced.was)

pub returns-in-Err-clause-write : goal.returns-in-Err-clause-write
returns-in-Err-clause-write g c is = c.write_image.ensures.write (c.in-Err.is ∙ ap Err (same_fault _ c.in-Err.fault fault.Write refl is))

pub returns-in-Err-clause-untouched_memory : goal.returns-in-Err-clause-untouched_memory
returns-in-Err-clause-untouched_memory g c is = c.write_image.ensures.memory (c.in-Err.is ∙ ap Err (same_fault _ c.in-Err.fault fault.Memory refl is))

pub returns-in-Err-clause-refused : goal.returns-in-Err-clause-refused
returns-in-Err-clause-refused g c f is = absurd (subst IsOfWriting (same_fault _ c.in-Err.fault (fault.Refused f) refl is) (of_writing c.in-Err.fault c.in-Err.ensures.fault))

pub returns-in-Err-clause-read : goal.returns-in-Err-clause-read
returns-in-Err-clause-read g c is = absurd (subst IsOfWriting (same_fault _ c.in-Err.fault fault.Read refl is) (of_writing c.in-Err.fault c.in-Err.ensures.fault))

pub returns-in-Err-clause-untouched_read : goal.returns-in-Err-clause-untouched_read
returns-in-Err-clause-untouched_read g c is = absurd (subst IsOfWriting (same_fault _ c.in-Err.fault fault.Read refl is) (of_writing c.in-Err.fault c.in-Err.ensures.fault))

pub returns-in-Err-clause-untouched_refused : goal.returns-in-Err-clause-untouched_refused
returns-in-Err-clause-untouched_refused g c f is = absurd (subst IsOfWriting (same_fault _ c.in-Err.fault (fault.Refused f) refl is) (of_writing c.in-Err.fault c.in-Err.ensures.fault))

pub returns-in-Err-clause-opened : goal.returns-in-Err-clause-opened
returns-in-Err-clause-opened g c is = subst IsOfWriting (same_fault _ c.in-Err.fault fault.NoFile refl is) (of_writing c.in-Err.fault c.in-Err.ensures.fault)
