use Rattle.std.proofs.Common.{arith, ap, get_or, length, subst, sym, ◌∙◌, ◌≡◌, ℕ, [], ◌+◌, ◌<◌}
use Rattle.std.proofs.Math.Nat.{min-eq_left}
use Rattle.jri_archive.specs.declared.counts.FileCounts.{FileCounts}
use Rattle.jri_archive.specs.Reporting.{AreSomeReported, AreReported, QueueValue}
use Rattle.jri_archive.proofs.Counting.{found_more, reported_more}
use Rattle.jri_archive.proofs.file_queue.FileQueue.note.Goals as goal

pub invariant_of-self : goal.invariant_of-self
invariant_of-self g c = record {
  few = c.self.invariant.few;
  files = c.self.invariant.files;
  counted = λ is_open all known.
      let next = c.requires.next all known in
      let few = c.self.invariant.few all known in
      let at : c.self.inside.reported ≡ c.args.self.now.reported = ap (λ (v : QueueValue). v.reported) c.self.view_is in
      let is = subst (λ (n : ℕ). g.S.OneCheck.may_be (get_or all n []) next.1.0) (sym at) next.1.1 in
      let t = reported_more g.S.OneCheck.may_be all c.self.inside.reported c.self.inside.report.counts c.args.state next.1.0 is next.1.2 (c.self.invariant.counted is_open all known) in
      let within : c.self.inside.reported < length all = omega (arith, at, next.0) in
      let more : c.saturating_add-self-inside.result ≡ c.self.inside.reported + 1 = c.saturating_add-self-inside.ensures ∙ min-eq_left (omega (arith, within, few)) in
      subst (λ (n : ℕ). AreReported g.S.OneCheck.may_be all n c.with-self-inside.result) (sym more)
      (subst (λ (x : FileCounts). AreReported g.S.OneCheck.may_be all (c.self.inside.reported + 1) x) (sym c.with-self-inside.ensures) t);
  found = λ is_open unknown.
      let f = c.requires.found unknown in
      subst (λ (x : FileCounts). AreSomeReported g.S.OneCheck.may_be x) (sym c.with-self-inside.ensures)
      (found_more g.S.OneCheck.may_be c.self.inside.report.counts f.0 c.args.state f.1 f.2 f.3 (c.self.invariant.found is_open unknown));
}
