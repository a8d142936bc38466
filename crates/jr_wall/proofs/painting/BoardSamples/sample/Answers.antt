use Rattle.std.proofs.Common.{ap, ◌∙◌}
use Rattle.jr_head.specs.HeadValue.{HeadValue}
use Rattle.jr_paint.specs.Units.{sample_by_units}
use Rattle.jr_picture.specs.Samples.{samples_of, sample_in_mcu}
use Rattle.jr_scan.specs.ScanValue.{ScanValue}
use Rattle.jr_wall.proofs.painting.BoardSamples.sample.Goals as goal

pub returns : goal.returns
unfolding samples_of
returns c =
    let head = c.head.ensures.value ∙ ap (λ (s : ScanValue). s.head) c.scan.ensures in
    c.sample_of_units.ensures ∙ ap (λ (h : HeadValue). sample_by_units h (sample_in_mcu c.args.self.now) c.args.c c.args.x c.args.y) head
