use Rattle.std.proofs.Common.{rules, arith, sym, subst, ap, ◌∙◌, ◌≡◌, ℕ, ◌*◌, ℤ, Option, List, length}
use Rattle.jr_head.specs.HeadValue.{HeadValue}
use Rattle.jr_head.specs.Geometry.{blocks_of, mcus_across}
use Rattle.jr_scan.specs.ScanValue.{ScanValue}
use Rattle.jr_scan.specs.FirstIntervalsValue.{FirstIntervalsValue}
use Rattle.jr_rows.specs.Rows.{AreRead, CountsRow}
use Rattle.jr_rows.proofs.Lent.{all_back}
use Rattle.jr_crew.specs.RowBuffer.{HasBlockSpace, HasPixelSpace, IsRead}
use Rattle.jr_crew.proofs.row_buffer.RowBuffer.read.Goals as goal

pub invariant_of-result : goal.invariant_of-result
invariant_of-result g c =
    let known = g.S.OneScan.part in
    let t = c.args.part.now in
    let row = c.row-row.result in
    let marked = c.read-marked.result in
    let e = c.read-marked.ensures in
    let new = c.read-marked.new.blocks in
    let old = c.in-Ok.blocks in
    let bytes = c.self.inside.pixels.items in
    let at = sym c.row-row.ensures in
    let same : length new ≡ length old.items = search (rules, c.read-marked.auto.blocks) in
    let long : old.len ≡ length new = search (rules, c.read-marked.auto.blocks) in
    let is = all_back old.len new old.items long in
    let head = c.head.ensures.value ∙ ap (λ (s : ScanValue). s.head) c.scan.ensures in
    let had = subst (λ (h : HeadValue). length old.items ≡ mcus_across h * blocks_of h) head c.in-Ok.ensures in
    let space = subst (λ (k : Option FirstIntervalsValue). HasPixelSpace k bytes) c.requires.part c.self.invariant.1 in
    let read = subst (λ (r : ℕ). AreRead t.scan t.limit r new) at e.read in
    let counts = subst (λ (r : ℕ). CountsRow t.scan t.limit r marked) at e.counts in
    let whole = subst (λ (bs : List (List ℤ)). HasBlockSpace known bs × HasPixelSpace known bytes × IsRead known (record { row = row; marked = marked; blocks = bs })) (sym is)
    (subst (λ (k : Option FirstIntervalsValue). HasBlockSpace k new × HasPixelSpace k bytes × IsRead k (record { row = row; marked = marked; blocks = new })) (sym c.requires.part)
    (same ∙ had, space, record { row = omega (arith, c.requires.row, c.row-row.ensures); blocks = read; counts = counts })) in
    search whole
