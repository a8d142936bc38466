use Rattle.std.proofs.Common.{◌+◌, ◌<◌, sym, ap, subst, ◌∙◌, refl, arith, rules}
use Rattle.jr_head.specs.HeadValue.{HeadValue}
use Rattle.jr_head.specs.Geometry.{mcus_across}
use Rattle.jr_head.specs.Intervals.{intervals_of}
use Rattle.jr_scan.specs.PartialScan.{PartialScanValue}
use Rattle.jr_arrival.specs.declared.partial_source.PartialSource.{PartialSource}
use Rattle.jr_arrival.specs.PartialRows.{HasNoMore, IsPartialRow, PartialRowValue}
use Rattle.jr_arrival.proofs.Readings.{row_walked}
use Rattle.jr_arrival.proofs.partial_row.PartialRow.decode.Goals as goal

pub walk_row-more-requires-clause-at : goal.walk_row-more-requires-clause-at
walk_row-more-requires-clause-at c =
    let i = c.self.inside in
    let e = c.head-head.ensures.value in
    let v : PartialRowValue = record { row = i.row; done = i.done; cursor = i.cursor; samples = i.samples; lines = i.lines; marked = i.marked } in
    let partial_row : IsPartialRow c.args.scan.now v = subst (IsPartialRow c.args.scan.now) (sym c.self.view_is) c.requires.partial_row in
    record {
      head = sym e;
      valid = c.head-head.ensures.valid;
      count = sym c.intervals-most.ensures.value ∙ c.intervals-most.ensures.count ∙ ap intervals_of (sym e);
      reading = partial_row.reading;
    }

pub returns-clause-partial_row : goal.returns-clause-partial_row
returns-clause-partial_row c =
    let i = c.self.inside in
    let v : PartialRowValue = record { row = i.row; done = i.done; cursor = i.cursor; samples = i.samples; lines = i.lines; marked = i.marked } in
    let partial_row : IsPartialRow c.args.scan.now v = subst (IsPartialRow c.args.scan.now) (sym c.self.view_is) c.requires.partial_row in
    let s : PartialSource = record { scan = c.args.scan; cursor = i.cursor; marked = i.marked } in
    let walk = c.walk_row-more in
    row_walked s walk.new.source c.head-head.result.now v walk.result walk.new.sink partial_row refl (sym c.head-head.ensures.value) walk.ensures.space walk.ensures.walks

pub returns-clause-none : goal.returns-clause-none
returns-clause-none c stated =
    let walk = c.walk_row-more in
    let e = c.head-head.ensures.value in
    let across = c.shape_of-across.ensures.across in
    let lt : c.self.inside.done + walk.result < mcus_across c.head-head.result.now = search (rules, arith, stated, walk.ensures.walks.few, across) in
    (subst (λ (g : PartialScanValue). HasNoMore g walk.new.source.cursor) walk.ensures.walks.steps.part (walk.ensures.waits lt), subst (λ (h : HeadValue). c.self.inside.done + walk.result < mcus_across h) e lt)
