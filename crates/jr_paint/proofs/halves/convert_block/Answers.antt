use Rattle.std.proofs.Common.{rules, slice_index}
use Rattle.jr_paint.proofs.Blocks.{halved_pixels}
use Rattle.jr_paint.proofs.halves.convert_block.Goals as goal

pub returns-clause-line : goal.returns-clause-line
returns-clause-line c =
    rw c.paint.ensures
    (search (rules, halved_pixels c.args.i c.args.first.now (slice_index c.args.luma.now) (slice_index c.args.cb.now) (slice_index c.args.cr.now) c.raised.result.0 c.raised.result.1 c.raised.result.2 c.raised.ensures.red c.raised.ensures.green c.raised.ensures.blue))

pub returns-clause-next : goal.returns-clause-next
returns-clause-next c =
    rw c.paint-2.ensures
    (search (rules, halved_pixels c.args.i c.args.second.now (slice_index c.args.next_luma.now) (slice_index c.args.cb.now) (slice_index c.args.cr.now) c.raised.result.0 c.raised.result.1 c.raised.result.2 c.raised.ensures.red c.raised.ensures.green c.raised.ensures.blue))

pub paint-requires-clause-even_red : goal.paint-requires-clause-even_red
paint-requires-clause-even_red c = λ k lt. (c.raised.ensures.red k lt).small

pub paint-requires-clause-odd_red : goal.paint-requires-clause-odd_red
paint-requires-clause-odd_red c = λ k lt. (c.raised.ensures.red k lt).small

pub paint-requires-clause-even_green : goal.paint-requires-clause-even_green
paint-requires-clause-even_green c = λ k lt. (c.raised.ensures.green k lt).small

pub paint-requires-clause-odd_green : goal.paint-requires-clause-odd_green
paint-requires-clause-odd_green c = λ k lt. (c.raised.ensures.green k lt).small

pub paint-requires-clause-even_blue : goal.paint-requires-clause-even_blue
paint-requires-clause-even_blue c = λ k lt. (c.raised.ensures.blue k lt).small

pub paint-requires-clause-odd_blue : goal.paint-requires-clause-odd_blue
paint-requires-clause-odd_blue c = λ k lt. (c.raised.ensures.blue k lt).small

pub paint-requires-2-clause-even_red : goal.paint-requires-2-clause-even_red
paint-requires-2-clause-even_red c = λ k lt. (c.raised.ensures.red k lt).small

pub paint-requires-2-clause-odd_red : goal.paint-requires-2-clause-odd_red
paint-requires-2-clause-odd_red c = λ k lt. (c.raised.ensures.red k lt).small

pub paint-requires-2-clause-even_green : goal.paint-requires-2-clause-even_green
paint-requires-2-clause-even_green c = λ k lt. (c.raised.ensures.green k lt).small

pub paint-requires-2-clause-odd_green : goal.paint-requires-2-clause-odd_green
paint-requires-2-clause-odd_green c = λ k lt. (c.raised.ensures.green k lt).small

pub paint-requires-2-clause-even_blue : goal.paint-requires-2-clause-even_blue
paint-requires-2-clause-even_blue c = λ k lt. (c.raised.ensures.blue k lt).small

pub paint-requires-2-clause-odd_blue : goal.paint-requires-2-clause-odd_blue
paint-requires-2-clause-odd_blue c = λ k lt. (c.raised.ensures.blue k lt).small
