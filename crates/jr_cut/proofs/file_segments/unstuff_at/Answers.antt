use Rattle.std.proofs.Common.{take, slice_range}
use Rattle.jr_cut.proofs.Spellings.{same_found}
use Rattle.jr_cut.proofs.file_segments.unstuff_at.Goals as goal

pub returns-clause-data : goal.returns-clause-data
returns-clause-data c bytes spelled =
    let raw = slice_range c.args.file.now c.args.span.start c.args.span.end in
    same_found raw (take c.unstuff_segment.result c.unstuff_segment.new.buffer.items) bytes c.unstuff_segment.ensures.data spelled.raw
