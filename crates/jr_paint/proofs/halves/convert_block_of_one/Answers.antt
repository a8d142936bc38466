use Rattle.std.proofs.Common.{rules, slice_index}
use Rattle.jr_paint.proofs.Blocks.{halved_pixels}
use Rattle.jr_paint.proofs.halves.convert_block_of_one.Goals as goal

pub returns : goal.returns
returns c =
    rw c.paint.ensures
    (search (rules, halved_pixels c.args.i c.args.out.now (slice_index c.args.luma.now) (slice_index c.args.cb.now) (slice_index c.args.cr.now) c.raised.result.0 c.raised.result.1 c.raised.result.2 c.raised.ensures.red c.raised.ensures.green c.raised.ensures.blue))
