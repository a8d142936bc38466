use Rattle.std.proofs.Common.{sym, subst, ap, ◌∙◌, ◌≡◌, ℕ, ◌*◌, ◌<◌}
use Rattle.std.proofs.lemmas.List.{length-take-le}
use Rattle.jr_head.specs.HeadValue.{HeadValue}
use Rattle.jr_head.specs.Geometry.{mcus_down}
use Rattle.jr_scan.specs.ScanValue.{ScanValue}
use Rattle.jr_rows.specs.Rows.{HasSampleSpace, line_count}
use Rattle.jr_rows.proofs.PaintedRows.{shows}
use Rattle.jr_crew.proofs.RowBuffers.{first_lines, lines_fit}
use Rattle.jr_crew.proofs.row.paint_decoded.Goals as goal

pub returns-clause-lines : goal.returns-clause-lines
returns-clause-lines c =
    let t = c.args.part.now.scan in
    let row = c.args.row in
    let hd = c.head-head.result.now in
    let head : hd ≡ t.head = c.head-head.ensures.value ∙ ap (λ (s : ScanValue). s.head) c.scan.ensures in
    let fit = lines_fit t hd row c.lines_of-y.result.1 c.shape_of.result.line c.args.pixels.now head c.lines_of-y.ensures.count c.shape_of.ensures.line c.requires.pixels in
    let new = c.paint_row.new.pixels in
    first_lines t c.args.part.now.limit row _ new c.args.pixels.now fit.0 fit.1 c.paint_row.auto.pixels (shows t c.args.part.now.limit row hd c.args.work.now.lines.groups new head c.requires.units c.paint_row.ensures.lines)

pub slice_bounds-paint_row-end : goal.slice_bounds-paint_row-end
slice_bounds-paint_row-end c =
    let t = c.args.part.now.scan in
    let hd = c.head-head.result.now in
    let head : hd ≡ t.head = c.head-head.ensures.value ∙ ap (λ (s : ScanValue). s.head) c.scan.ensures in
    let fit = lines_fit t hd c.args.row c.lines_of-y.result.1 c.shape_of.result.line c.args.pixels.now head c.lines_of-y.ensures.count c.shape_of.ensures.line c.requires.pixels in
    fit.1

pub slice_bounds-paint_row-end-2 : goal.slice_bounds-paint_row-end-2
slice_bounds-paint_row-end-2 c =
    let t = c.args.part.now.scan in
    let hd = c.head-head.result.now in
    let head : hd ≡ t.head = c.head-head.ensures.value ∙ ap (λ (s : ScanValue). s.head) c.scan.ensures in
    let fit = lines_fit t hd c.args.row c.lines_of-y.result.1 c.shape_of.result.line c.args.pixels.now head c.lines_of-y.ensures.count c.shape_of.ensures.line c.requires.pixels in
    sym (length-take-le (c.lines_of-y.result.1 * c.shape_of.result.line) c.args.pixels.now fit.1)

pub paint_row-requires-clause-pixels : goal.paint_row-requires-clause-pixels
paint_row-requires-clause-pixels c =
    let t = c.args.part.now.scan in
    let row = c.args.row in
    let hd = c.head-head.result.now in
    let head : hd ≡ t.head = c.head-head.ensures.value ∙ ap (λ (s : ScanValue). s.head) c.scan.ensures in
    let fit = lines_fit t hd row c.lines_of-y.result.1 c.shape_of.result.line c.args.pixels.now head c.lines_of-y.ensures.count c.shape_of.ensures.line c.requires.pixels in
    let line = c.shape_of.result.line in
    length-take-le (c.lines_of-y.result.1 * line) c.args.pixels.now fit.1 ∙ ap (λ (n : ℕ). n * line) c.lines_of-y.ensures.count ∙ ap (λ (n : ℕ). line_count hd row * n) c.shape_of.ensures.line

pub paint_row-requires-clause-row : goal.paint_row-requires-clause-row
paint_row-requires-clause-row c =
    let head = c.head-head.ensures.value ∙ ap (λ (s : ScanValue). s.head) c.scan.ensures in
    subst (λ (h : HeadValue). c.args.row < mcus_down h) (sym head) c.requires.row

pub paint_row-requires-clause-space : goal.paint_row-requires-clause-space
paint_row-requires-clause-space c =
    let head = c.head-head.ensures.value ∙ ap (λ (s : ScanValue). s.head) c.scan.ensures in
    subst (λ (h : HeadValue). HasSampleSpace h c.args.work.now) (sym head) c.requires.space

pub returns-clause-space : goal.returns-clause-space
returns-clause-space c =
    let head = c.head-head.ensures.value ∙ ap (λ (s : ScanValue). s.head) c.scan.ensures in
    subst (λ (h : HeadValue). HasSampleSpace h c.paint_row.new.self) head c.paint_row.ensures.space
