use Rattle.std.proofs.Common.{◌≡◌, ◌+◌, ◌≤◌, sym, subst, rules}
use Rattle.jr_head.specs.HeadValue.{HeadValue}
use Rattle.jr_head.specs.Geometry.{IsValid, mcus_across}
use Rattle.jr_paint.specs.Lines.{next_lines_of}
use Rattle.jr_rows.specs.Bands.{samples_in}
use Rattle.jr_rows.specs.Rows.{HasSampleSpace, first_line, line_count}
use Rattle.jr_rows.specs.RowsValue.{SampleRowValue}
use Rattle.jr_scan.specs.ScanValue.{ScanValue}
use Rattle.jr_arrival.specs.PartialRows.{AreFinalLines, PartialRowValue, IsPartialRow}
use Rattle.jr_arrival.proofs.Readings.{row_partial, same_lines}
use Rattle.jr_arrival.proofs.partial_row.PartialRow.paint.Goals as goal

pub pass_lines-requires-clause-partial_row : goal.pass_lines-requires-clause-partial_row
pass_lines-requires-clause-partial_row c =
    let s : ScanValue = c.args.scan.now.scan in
    let i = c.self.inside in
    let v : PartialRowValue = record { row = i.row; done = i.done; cursor = i.cursor; samples = i.samples; lines = i.lines; marked = i.marked } in
    let partial_row : IsPartialRow c.args.scan.now v = subst (IsPartialRow c.args.scan.now) (sym c.self.view_is) c.requires.partial_row in
    let w : SampleRowValue = c.paint_some.new.self in
    same_lines c.args.scan.now v w partial_row c.paint_some.ensures.kept (subst (λ (h : HeadValue). HasSampleSpace h w) c.head-head.ensures.value c.paint_some.ensures.space)

pub returns-clause-painted : goal.returns-clause-painted
returns-clause-painted c =
    let s : ScanValue = c.args.scan.now.scan in
    let i = c.self.inside in
    let n = c.args.count in
    let v : PartialRowValue = record { row = i.row; done = i.done; cursor = i.cursor; samples = i.samples; lines = i.lines; marked = i.marked } in
    let partial_row : IsPartialRow c.args.scan.now v = subst (IsPartialRow c.args.scan.now) (sym c.self.view_is) c.requires.partial_row in
    let e : c.head-head.result.now ≡ s.head = c.head-head.ensures.value in
    let valid : IsValid s.head = subst IsValid e c.head-head.ensures.valid in
    let whole : i.done ≡ mcus_across s.head = subst (λ (r : PartialRowValue). r.done ≡ mcus_across s.head) (sym c.self.view_is) c.requires.whole in
    let few : i.lines + n ≤ first_line s.head i.row + line_count s.head i.row = subst (λ (r : PartialRowValue). r.lines + n ≤ first_line s.head r.row + line_count s.head r.row) (sym c.self.view_is) c.requires.inside in
    let pixels = c.paint_some.new.pixels in
    let are : pixels ≡ next_lines_of s.head (samples_in (record { head = s.head; groups = i.samples.lines.groups })) i.lines n =
    subst (λ (h : HeadValue). pixels ≡ next_lines_of h (samples_in (record { head = h; groups = i.samples.lines.groups })) i.lines n) e (search (rules, c.paint_some.ensures.lines)) in
    subst (λ (r : PartialRowValue). AreFinalLines c.args.scan.now r.lines n pixels) c.self.view_is (row_partial c.args.scan.now v valid partial_row whole n few pixels are)
