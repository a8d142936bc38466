use Rattle.std.proofs.Common.{ap, rules, subst, sym, ◌∙◌, ◌≡◌, ℕ, List, [], Some, slice_get}
use Rattle.std.proofs.lemmas.Option.{get_or_from_slice_get, slice_get_within}
use Rattle.jri_archive.specs.Reporting.{QueueValue}
use Rattle.jri_archive.proofs.file_queue.FileQueue.write_due.Goals as goal

pub note-requires : goal.note-requires
note-requires g c = record {
  next = λ names known.
      let at : c.self.inside.reported ≡ c.args.self.now.reported = ap (λ (v : QueueValue). v.reported) (c.self.view_is ∙ c.make_way.ensures) in
      let named = subst (λ (n : ℕ). slice_get names n ≡ Some c.args.name.now) (sym at) (c.requires.next names known).0 in (
        slice_get_within names c.self.inside.reported c.args.name.now named,
        (
          c.args.file.now.outcome,
          subst (λ (name : List ℕ). g.S.OneCheck.may_be name c.args.file.now.outcome) (sym (get_or_from_slice_get names c.self.inside.reported c.args.name.now [] named)) (c.requires.next names known).1,
          search (rules, c.state-state.ensures),
        ),
      );
  found = λ unknown. (c.args.name.now, c.args.file.now.outcome, c.requires.found unknown, search (rules, c.state-state.ensures));
}
