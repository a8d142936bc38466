use Rattle.std.proofs.Common.{◌≡◌, arith}
use Rattle.jr_arrival.proofs.SourceSteps.{left_in, then_walks, walks_by, walks_on, walks_then}
use Rattle.jr_arrival.proofs.row_walk.walk_some.Goals as goal

pub give_up-requires-clause-some : goal.give_up-requires-clause-some
give_up-requires-clause-some g c =
    let value = g.S.McuSource.value in
    let e = c.take_some-whole.ensures in
    left_in c.args.head.now (value c.advance.new.self) (value c.take_some-whole.new.self) c.take_some-whole.result (omega (arith, c.if-whole-gt0.false)) e.walks.steps e.number (c.advance.ensures.some c.if-not-advance.false)

pub returns-then-not-advance-clause-walks : goal.returns-then-not-advance-clause-walks
returns-then-not-advance-clause-walks g c =
    let value = g.S.McuSource.value in
    walks_by c.args.head.now (value c.args.source.now) (value c.advance.new.self) g.K.McuSink.keeps c.args.done (g.K.McuSink.groups c.args.sink.now) c.advance.ensures.steps (omega (arith, c.requires.within))

pub returns-then-whole-gt0-clause-walks : goal.returns-then-whole-gt0-clause-walks
returns-then-whole-gt0-clause-walks g c =
    let value = g.S.McuSource.value in
    let groups = g.K.McuSink.groups in
    then_walks c.args.head.now (value c.args.source.now) (value c.advance.new.self) (value c.take_some-whole.new.self) g.K.McuSink.keeps c.args.done c.take_some-whole.result (groups c.args.sink.now) (groups c.take_some-whole.new.sink) c.advance.ensures.steps c.take_some-whole.ensures.walks

pub returns-then-not-give_up-clause-walks : goal.returns-then-not-give_up-clause-walks
returns-then-not-give_up-clause-walks g c =
    let value = g.S.McuSource.value in
    let groups = g.K.McuSink.groups in
    let keeps = g.K.McuSink.keeps in
    let h = c.args.head.now in
    let a = value c.advance.new.self in
    let u = value c.give_up.new.self in
    let old = groups c.args.sink.now in
    let mid = groups c.take_some-whole.new.sink in
    let none : c.take_some-whole.result ≡ 0 = omega (arith, c.if-whole-gt0.false) in
    then_walks h (value c.args.source.now) a u keeps c.args.done 0 old mid c.advance.ensures.steps
    (walks_then h a (value c.take_some-whole.new.self) u keeps c.args.done c.take_some-whole.result old mid none c.take_some-whole.ensures.walks c.give_up.ensures.steps)

pub returns-clause-walks : goal.returns-clause-walks
returns-clause-walks g c =
    let value = g.S.McuSource.value in
    let groups = g.K.McuSink.groups in
    let keeps = g.K.McuSink.keeps in
    let h = c.args.head.now in
    let s = value c.args.source.now in
    let a = value c.advance.new.self in
    let u = value c.give_up.new.self in
    let d = value c.walk_grey.new.source in
    let old = groups c.args.sink.now in
    let mid = groups c.take_some-whole.new.sink in
    let new = groups c.walk_grey.new.sink in
    let none : c.take_some-whole.result ≡ 0 = omega (arith, c.if-whole-gt0.false) in
    let first = walks_then h a (value c.take_some-whole.new.self) u keeps c.args.done c.take_some-whole.result old mid none c.take_some-whole.ensures.walks c.give_up.ensures.steps in
    then_walks h s a d keeps c.args.done c.walk_grey.result old new c.advance.ensures.steps (walks_on h a u d keeps c.args.done c.walk_grey.result old mid new first c.walk_grey.ensures.walks)
