use Rattle.std.proofs.Common.{ap, ◌∙◌, rules}
use Rattle.jr_head.specs.HeadValue.{HeadValue}
use Rattle.jr_paint.specs.Units.{sample_by_units}
use Rattle.jr_picture.specs.Samples.{samples_of, sample_in_mcu}
use Rattle.jr_scan.specs.ScanValue.{ScanValue}
use Rattle.jr_wall.proofs.painting.BoardSamples.line.Goals as goal

pub returns-clause-samples : goal.returns-clause-samples
unfolding samples_of
returns-clause-samples c = λ k lt.
    let head = c.head.ensures.value ∙ ap (λ (s : ScanValue). s.head) c.scan.ensures in
    c.fill_line.ensures k (search (rules, lt)) ∙ ap (λ (h : HeadValue). sample_by_units h (sample_in_mcu c.args.self.now) c.args.c k c.args.y) head
