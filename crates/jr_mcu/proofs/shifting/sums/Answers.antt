use Rattle.std.proofs.Common.{rules, pos}
use Rattle.jr_mcu.specs.Block.{IsInDcRange}
use Rattle.jr_mcu.proofs.Greater.{three_sums, three_all}
use Rattle.jr_mcu.proofs.shifting.sums.Goals as goal

pub sum-requires-3-clause-a : goal.sum-requires-3-clause-a
sum-requires-3-clause-a c = let third = c.requires.a 2 (pos 0) (search rules) in search (rules, third)

pub returns-clause-sums : goal.returns-clause-sums
returns-clause-sums c = three_sums c.args.a.now c.args.b.now _ _ _ (search (rules, c.sum.ensures.value)) (search (rules, c.sum-2.ensures.value)) (search (rules, c.sum-3.ensures.value))

pub returns-clause-in_range : goal.returns-clause-in_range
returns-clause-in_range c = three_all IsInDcRange _ _ _ (search (rules, c.sum.ensures.in_range)) (search (rules, c.sum-2.ensures.in_range)) (search (rules, c.sum-3.ensures.in_range))

pub sum-requires-clause-a : goal.sum-requires-clause-a
sum-requires-clause-a c = let first = c.requires.a 0 (pos 0) (search rules) in search (rules, first)

pub sum-requires-clause-b : goal.sum-requires-clause-b
sum-requires-clause-b c = let first = c.requires.b 0 (pos 0) (search rules) in search (rules, first)

pub sum-requires-2-clause-a : goal.sum-requires-2-clause-a
sum-requires-2-clause-a c = let second = c.requires.a 1 (pos 0) (search rules) in search (rules, second)

pub sum-requires-2-clause-b : goal.sum-requires-2-clause-b
sum-requires-2-clause-b c = let second = c.requires.b 1 (pos 0) (search rules) in search (rules, second)

pub sum-requires-3-clause-b : goal.sum-requires-3-clause-b
sum-requires-3-clause-b c = let third = c.requires.b 2 (pos 0) (search rules) in search (rules, third)
