use Rattle.std.proofs.Common.{inl, inr, arith, rules}
use Rattle.jr_cut.proofs.Stops.{stop_there}
use Rattle.jr_cut.proofs.into_buffer.ends_within.Goals as goal

pub returns-then-most-raw-clause-ends : goal.returns-then-most-raw-clause-ends
returns-then-most-raw-clause-ends c stated =
    stop_there c.args.raw.now c.args.read c.args.most c.fill_count-fill.result c.requires.read c.requires.most c.requires.stop c.fill_count-fill.ensures.next (inl (search (rules, arith)))

pub returns-else-most-raw-clause-ends : goal.returns-else-most-raw-clause-ends
returns-else-most-raw-clause-ends c stated =
    stop_there c.args.raw.now c.args.read c.args.most c.fill_count-fill.result c.requires.read c.requires.most c.requires.stop c.fill_count-fill.ensures.next (inr (search (rules, arith, stated)))
