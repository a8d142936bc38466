use Rattle.std.proofs.Common.{ap, refl, arith}
use Rattle.jr_head.specs.Intervals.{intervals_of}
use Rattle.jr_arrival.specs.PartialSources.{partial_source_of}
use Rattle.jr_arrival.proofs.PartialSteps.{returns_up, none_left}
use Rattle.jr_arrival.proofs.Readings.{no_more}
use Rattle.jr_arrival.proofs.SourceSteps.{nowhere}
use Rattle.jr_arrival.proofs.partial_source.PartialSourceMcuSource.give_up.Goals as goal

pub is_final-requires-clause-number : goal.is_final-requires-clause-number
is_final-requires-clause-number c = omega (arith, c.requires.at.reading.number, c.requires.at.count, ap intervals_of c.requires.at.head)

pub is_final-requires-clause-reads : goal.is_final-requires-clause-reads
is_final-requires-clause-reads c = c.requires.at.reading.reads

pub returns-then-not-is_final-clause-steps : goal.returns-then-not-is_final-clause-steps
returns-then-not-is_final-clause-steps c = nowhere c.args.head.now (partial_source_of c.args.self.now) c.requires.at

pub returns-then-not-is_final-clause-waits : goal.returns-then-not-is_final-clause-waits
returns-then-not-is_final-clause-waits c stated = no_more c.args.self.now.scan.now c.args.self.now.cursor c.requires.at.reading.reads c.requires.none (c.is_final.ensures.going c.if-not-is_final.true)

pub returns-clause-steps : goal.returns-clause-steps
returns-clause-steps c = returns_up c.args.head.now c.args.self.now c.requires.at c.requires.some c.requires.none (c.is_final.ensures.never c.if-not-is_final.false)

pub returns-clause-stuck : goal.returns-clause-stuck
returns-clause-stuck c stated =
    let steps = returns_up c.args.head.now c.args.self.now c.requires.at c.requires.some c.requires.none (c.is_final.ensures.never c.if-not-is_final.false) in
    none_left c.args.head.now _ steps.at refl c.requires.some
