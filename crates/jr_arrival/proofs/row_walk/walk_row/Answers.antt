use Rattle.std.proofs.Common.{arith}
use Rattle.jr_rows.proofs.PictureRows.{row_inside}
use Rattle.jr_arrival.proofs.SourceSteps.{nowhere, walks_after, walks_by}
use Rattle.jr_arrival.proofs.row_walk.walk_row.Goals as goal

pub mcus-init : goal.mcus-init
mcus-init g c =
    let v = g.S.McuSource.value c.args.source.now in
    let h = c.args.head.now in
    record { walks = walks_by h v v g.K.McuSink.keeps c.args.done (g.K.McuSink.groups c.args.sink.now) (nowhere h v c.requires.at) c.requires.within; space = c.requires.space }

pub walk_some-some-requires-clause-at : goal.walk_some-some-requires-clause-at
walk_some-some-requires-clause-at g c = c.mcus.invariant.walks.steps.at

pub walk_some-some-requires-clause-space : goal.walk_some-some-requires-clause-space
walk_some-some-requires-clause-space g c = c.mcus.invariant.space

pub walk_some-some-requires-clause-within : goal.walk_some-some-requires-clause-within
walk_some-some-requires-clause-within g c = omega (arith, c.mcus-test.true, c.shape_of-across.ensures.across)

pub walk_some-some-requires-clause-more : goal.walk_some-some-requires-clause-more
walk_some-some-requires-clause-more g c =
    let inside = row_inside c.args.head.now c.args.row c.requires.row in
    omega (arith, inside, c.mcus.invariant.walks.steps.passed, c.requires.before, c.mcus-test.true, c.shape_of-across.ensures.across)

pub mcus-preserved : goal.mcus-preserved
mcus-preserved g c =
    let value = g.S.McuSource.value in
    let groups = g.K.McuSink.groups in
    let e = c.walk_some-some.ensures in
    record {
      walks = walks_after c.args.head.now (value c.args.source.now) (value c.mcus.source) (value c.walk_some-some.new.source) g.K.McuSink.keeps c.args.done c.mcus.walked c.walk_some-some.result (groups c.args.sink.now) (groups c.mcus.sink) (groups c.walk_some-some.new.sink) c.mcus.invariant.walks e.walks;
      space = e.space;
    }
