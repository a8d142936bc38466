use Rattle.std.proofs.Common.{ap, rules, subst, sym, ◌∙◌, ◌≡◌, ℕ, Some, slice_get}
use Rattle.jri_archive.specs.Reporting.{QueueValue}
use Rattle.jri_archive.proofs.sharing.Sharing.report.Goals as goal

pub write_due-requires-clause-next : goal.write_due-requires-clause-next
write_due-requires-clause-next g c names known =
    let due : c.deref.result.now.reported ≡ c.args.number = search rules in
    let same : c.deref_mut.result.now ≡ c.deref.result.now = c.deref_mut.ensures.value ∙ sym c.deref.ensures in
    let at : c.deref_mut.result.now.reported ≡ c.args.number = ap (λ (v : QueueValue). v.reported) same ∙ due in
    let next = c.requires.next names known in
    (subst (λ (n : ℕ). slice_get names n ≡ Some c.args.name.now) (sym at) next.0, next.1)
