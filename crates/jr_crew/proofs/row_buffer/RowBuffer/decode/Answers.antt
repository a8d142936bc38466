use Rattle.std.proofs.Common.{rules, arith, sym, subst, ◌≡◌, ℕ, ◌*◌, ◌≤◌, Option, List, length, take}
use Rattle.std.specs.Option.{IfSome}
use Rattle.jr_head.specs.Geometry.{vertical_max}
use Rattle.jr_scan.specs.FirstIntervalsValue.{FirstIntervalsValue}
use Rattle.jr_paint.specs.Lines.{line_size}
use Rattle.jr_rows.specs.Rows.{CountsRow, ShowsLines, line_count}
use Rattle.jr_rows.proofs.Lent.{all_back}
use Rattle.jr_crew.specs.RowBuffer.{HasBlockSpace, HasPixelSpace, HasSamples, IsPainted}
use Rattle.jr_crew.proofs.row_buffer.RowBuffer.decode.Goals as goal

pub decode_first-marked-requires-clause-row : goal.decode_first-marked-requires-clause-row
decode_first-marked-requires-clause-row g c = c.requires.row

pub decode_first-marked-requires-clause-space : goal.decode_first-marked-requires-clause-space
decode_first-marked-requires-clause-space g c = subst (λ (k : Option FirstIntervalsValue). HasSamples k c.space.inside.work) c.requires.part c.space.invariant

pub invariant_of-space : goal.invariant_of-space
invariant_of-space g c =
    let work = c.decode_first-marked.new.work in
    subst (λ (k : Option FirstIntervalsValue). HasSamples k work) (sym c.requires.part) c.decode_first-marked.ensures.space

pub invariant_of-result : goal.invariant_of-result
invariant_of-result g c =
    let t = c.args.part.now in
    let rows = c.args.rows.now in
    let row = c.row-row.result in
    let marked = c.decode_first-marked.result in
    let old = c.self.inside.pixels in
    let new = c.decode_first-marked.new.pixels in
    let e = c.decode_first-marked.ensures in
    let at = sym c.row-row.ensures in
    let same : length new ≡ length old.items = search (rules, c.decode_first-marked.auto.pixels) in
    let long : old.len ≡ length new = search (rules, c.decode_first-marked.auto.pixels) in
    let is = all_back old.len new old.items long in
    let space : 8 * vertical_max t.scan.head * line_size t.scan.head ≤ length old.items = subst (λ (k : Option FirstIntervalsValue). HasPixelSpace k old.items) c.requires.part c.self.invariant.1 in
    let lines = subst (λ (r : ℕ). ShowsLines t.scan t.limit r (take (line_count t.scan.head r * line_size t.scan.head) new)) at e.lines in
    let counts = subst (λ (r : ℕ). CountsRow t.scan t.limit r marked) at e.counts in
    subst (λ (ps : List ℕ). IfSome c.self.inside.blocks (λ v. HasBlockSpace g.S.OneScan.part v.items) × HasPixelSpace g.S.OneScan.part ps × IsPainted g.S.OneScan.part (record { row = row; marked = marked; pixels = ps })) (sym is)
    (subst (λ (k : Option FirstIntervalsValue). IfSome c.self.inside.blocks (λ v. HasBlockSpace g.S.OneScan.part v.items) × HasPixelSpace k new × IsPainted k (record { row = row; marked = marked; pixels = new })) (sym c.requires.part)
    (c.self.invariant.0, omega (arith, space, same), record { row = omega (arith, c.requires.row, c.row-row.ensures); lines = lines; counts = counts }))
