use Rattle.std.proofs.Common.{ap, ◌∙◌}
use Rattle.jr_head.specs.HeadValue.{HeadValue}
use Rattle.jr_paint.specs.Units.{sample_by_units}
use Rattle.jr_scan.specs.ScanValue.{ScanValue}
use Rattle.jr_view.specs.ViewValue.{ViewValue}
use Rattle.jr_view.specs.Views.{sample_in_view, sample_seen}
use Rattle.jr_view.proofs.view.ViewSamples.sample.Goals as goal

pub returns : goal.returns
unfolding sample_in_view
returns c =
    let head = c.head.ensures.value ∙ ap (λ (s : ScanValue). s.head) c.deref.ensures ∙ ap (λ (v : ViewValue). v.scan.head) c.self.view_is in
    c.sample_of_units.ensures ∙ ap (λ (h : HeadValue). sample_by_units h (sample_seen c.args.self.now) c.args.c c.args.x c.args.y) head
