use Rattle.std.proofs.Common.{◌≡◌, ◌+◌, ◌-◌, ◌<◌, ◌≤◌, min, ap, ◌∙◌, arith, rules}
use Rattle.jr_head.specs.Geometry.{blocks_of}
use Rattle.jr_head.specs.Intervals.{mcus_in}
use Rattle.jr_scan.specs.declared.cursor.Cursor.{Cursor}
use Rattle.jr_arrival.proofs.ShownSteps.{grey_shows}
use Rattle.jr_arrival.proofs.row_walk.walk_grey.Goals as goal

pub returns-clause-walks : goal.returns-clause-walks
returns-clause-walks g c =
    let h = c.args.head.now in
    let v = g.S.McuSource.value c.args.source.now in
    let k = v.cursor in
    let n = c.fill_grey-grey.result in
    let e = c.fill_grey-grey.ensures in
    let some : 0 < blocks_of h = omega (arith, c.order-some.ensures.some, c.order-some.ensures.count) in
    let left : c.mcus_in.result ≡ mcus_in h k.number = c.mcus_in.ensures.value ∙ ap (λ (x : Cursor). mcus_in h x.number) c.cursor-cursor.ensures in
    let asked : c.min-some.result ≡ min (c.mcus_in.result - c.cursor-cursor.result.mcu) (c.shape_of.result.across - c.args.done) = search rules in
    let few : k.mcu + n ≤ mcus_in h k.number = omega (arith, e.few, asked, left, ap (λ (x : Cursor). x.mcu) c.cursor-cursor.ensures, c.requires.none.some) in
    record {
      steps = c.pass_grey.ensures h c.requires.at c.requires.none few;
      shows = grey_shows h v g.K.McuSink.keeps n c.args.done (g.K.McuSink.groups c.args.sink.now) (g.K.McuSink.groups c.fill_grey-grey.new.self) some c.requires.none few e.grey;
      few = omega (arith, e.few, asked, c.shape_of.ensures.across, c.requires.within);
    }
