use Rattle.std.proofs.Common.{ℕ, List, Option, IfOk, ◌≡◌, ◌∙◌, ap, subst}
use Rattle.std.specs.Io.KnownBytes.{Keeps}
use Rattle.jr_picture.specs.declared.report.Report.{Report}
use Rattle.jri_machine.specs.declared.noted.Noted.{Noted}
use Rattle.jri_machine.specs.Noted.{noted_in}
use Rattle.jri_engine.specs.Decoding.{PaintsBy}
use Rattle.jri_engine.proofs.DecodingLemmas.{after_flush, painted_kept}
use Rattle.jri_engine.proofs.running.decode.Goals as goal

pub returns-clause-painted : goal.returns-clause-painted
returns-clause-painted g c =
    let remaining = g.R.Read.remaining in
    let contents = g.W.Write.contents in
    let source = c.of-input.result.inner.inner in
    let sink = c.of-output.result.inner.inner in
    let written = contents c.outcome_of-outcome.new.output.inner.inner in
    let flushed = contents c.flush_written-outcome.new.out.inner in
    let is_source : source ≡ c.args.source = ap (λ (n : Noted g.row.R.Denot). noted_in n) c.of-input.ensures.inner ∙ c.of.ensures in
    let is_sink : sink ≡ c.args.out = ap (λ (n : Noted g.row.W.Denot). noted_in n) c.of-output.ensures.inner ∙ c.of-2.ensures in
    let paints = λ (l o e : Option (List ℕ)) (r : Report). PaintsBy c.args.decoding.is_resync l c.args.decoding.first (record { report = r; breaks = c.outcome_of-outcome.new.breaks }) o e in
    let kept : Keeps written flushed = subst (λ (n : Noted g.row.W.Denot). Keeps (contents (noted_in n)) flushed) c.into_inner-out.ensures c.flush_written-outcome.ensures.kept in
    let fact : IfOk c.flush_written-outcome.result (paints (remaining source) (contents sink) flushed) =
    after_flush (paints (remaining source) (contents sink) written) (paints (remaining source) (contents sink) flushed) c.outcome_of-outcome.result c.flush_written-outcome.result c.flush_written-outcome.ensures.same
    (λ r painted. painted_kept c.args.decoding.is_resync (remaining source) c.args.decoding.first (record { report = r; breaks = c.outcome_of-outcome.new.breaks }) (contents sink) written flushed kept painted)
    c.outcome_of-outcome.ensures.painted in
    subst (λ (s : g.row.R.Denot). IfOk c.flush_written-outcome.result (paints (remaining s) (contents c.args.out) flushed)) is_source
    (subst (λ (o : g.row.W.Denot). IfOk c.flush_written-outcome.result (paints (remaining source) (contents o) flushed)) is_sink fact)
