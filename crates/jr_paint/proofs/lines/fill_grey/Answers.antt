use Rattle.std.proofs.Common.{◌∙◌}
use Rattle.jr_paint.proofs.PixelLaws.{line_grey}
use Rattle.jr_paint.proofs.lines.fill_grey.Goals as goal

pub returns : goal.returns
returns g c =
    let h = g.S.Samples.head_of c.args.samples.now in
    c.copy_from_slice.ensures.after ∙ line_grey h (g.S.Samples.shown c.args.samples.now) c.args.y _ c.requires.kind c.upsample.ensures.long c.upsample.ensures.samples
