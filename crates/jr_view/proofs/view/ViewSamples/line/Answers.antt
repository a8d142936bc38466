use Rattle.std.proofs.Common.{ap, ◌∙◌, rules}
use Rattle.jr_head.specs.HeadValue.{HeadValue}
use Rattle.jr_paint.specs.Units.{sample_by_units}
use Rattle.jr_scan.specs.ScanValue.{ScanValue}
use Rattle.jr_view.specs.ViewValue.{ViewValue}
use Rattle.jr_view.specs.Views.{sample_in_view, sample_seen}
use Rattle.jr_view.proofs.view.ViewSamples.line.Goals as goal

pub returns-clause-samples : goal.returns-clause-samples
unfolding sample_in_view
returns-clause-samples c = λ k lt.
    let head = c.head.ensures.value ∙ ap (λ (s : ScanValue). s.head) c.deref.ensures ∙ ap (λ (v : ViewValue). v.scan.head) c.self.view_is in
    c.fill_line.ensures k (search (rules, lt)) ∙ ap (λ (h : HeadValue). sample_by_units h (sample_seen c.args.self.now) c.args.c k c.args.y) head
