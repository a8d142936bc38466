use Rattle.std.proofs.Common.{arith, subst, sym, ap, ◌∙◌, ◌≡◌, ◌+◌, ◌-◌, ◌*◌, ◌<◌, ◌≤◌, List, ℕ, length, take, drop}
use borrow.Rule.Slice.PartMut.{mid_len, put_mid, same_len_mid}
use Rattle.jr_head.specs.HeadValue.{HeadValue}
use Rattle.jr_head.specs.Geometry.{mcus_down}
use Rattle.jr_paint.specs.Lines.{line_size}
use Rattle.jr_scan.specs.ScanValue.{ScanValue}
use Rattle.jr_rows.specs.Rows.{CountsRow, HasSampleSpace, PaintsRowLines, ShowsLines, line_count}
use Rattle.jr_rows.specs.RowsValue.{RowsValue}
use Rattle.jr_rows.proofs.Lent.{all_back, front_kept, part_back}
use Rattle.jr_rows.proofs.PaintedRows.{shows}
use Rattle.jr_rows.proofs.writing.AloneRowPainter.paint.Goals as goal

-- the borrowed part is within the buffer, and of the requested length
before_end : (from to size : ℕ) → to ≡ from + size → from ≤ to
before_end from to size e = omega (arith, e)

size_is : (from to size : ℕ) → to ≡ from + size → to - from ≡ size
size_is from to size e = omega (arith, e)

part_within : (from to size n long : ℕ) → to ≡ from + size → to ≤ n → long ≡ n → from ≤ long
part_within from to size n long e le same = omega (arith, e, le, same)

all_within : (to n long : ℕ) → to ≤ n → long ≡ n → to ≤ long
all_within to n long le same = omega (arith, le, same)

pub returns-clause-lines : goal.returns-clause-lines
returns-clause-lines g c b first =
    let from = c.args.from in
    let to = c.args.to in
    let xs = c.deref_mut.result.now in
    let ys = c.paint_row.new.pixels in
    let mid = put_mid from (to - from) xs ys in
    let same : length xs ≡ length c.args.pixels.now.items = ap (λ (l : List ℕ). length l) c.deref_mut.ensures.value in
    let inside = part_within from to _ _ (length xs) c.requires.space c.requires.within same in
    let long : length ys ≡ to - from = c.paint_row.auto.pixels ∙ mid_len from to xs (all_within to _ (length xs) c.requires.within same) in
    let len : c.args.pixels.now.len ≡ length mid = c.args.pixels.now.ok.0 ∙ sym (same_len_mid from (to - from) xs ys c.paint_row.auto.pixels ∙ same) in
    let t = c.self.inside.part.scan in
    let n = c.self.inside.part.limit in
    let row = c.self.inside.rows.row in
    let head : c.head-head.result.now ≡ t.head = c.head-head.ensures.value ∙ ap (λ (s : ScanValue). s.head) c.scan-2.ensures in
    let units = c.decode-marked.ensures.units in
    let painted = subst (λ (r : ℕ). PaintsRowLines c.head-head.result.now r c.decode-marked.new.work.lines.groups ys) c.row-row.ensures c.paint_row.ensures.lines in
    let lines = shows t n row c.head-head.result.now c.decode-marked.new.work.lines.groups ys head units painted in
    let shown = subst (λ (r : RowsValue). ShowsLines r.scan r.limit r.row ys) c.self.view_is lines in
    ap (λ (l : List ℕ). take (to - from) (drop from l)) (all_back c.args.pixels.now.len mid c.args.pixels.now.items len) ∙ part_back from (to - from) xs ys inside long ∙ shown b first

pub returns-clause-long : goal.returns-clause-long
returns-clause-long g c =
    let from = c.args.from in
    let size = c.args.to - from in
    let xs = c.deref_mut.result.now in
    let ys = c.paint_row.new.pixels in
    let mid = put_mid from size xs ys in
    let all = same_len_mid from size xs ys c.paint_row.auto.pixels ∙ ap (λ (l : List ℕ). length l) c.deref_mut.ensures.value in
    let len : c.args.pixels.now.len ≡ length mid = c.args.pixels.now.ok.0 ∙ sym all in
    ap (λ (l : List ℕ). length l) (all_back c.args.pixels.now.len mid c.args.pixels.now.items len) ∙ all

pub returns-clause-kept : goal.returns-clause-kept
returns-clause-kept g c =
    let from = c.args.from in
    let size = c.args.to - from in
    let xs = c.deref_mut.result.now in
    let ys = c.paint_row.new.pixels in
    let mid = put_mid from size xs ys in
    let same : length xs ≡ length c.args.pixels.now.items = ap (λ (l : List ℕ). length l) c.deref_mut.ensures.value in
    let len : c.args.pixels.now.len ≡ length mid = c.args.pixels.now.ok.0 ∙ sym (same_len_mid from size xs ys c.paint_row.auto.pixels ∙ same) in
    let inside = part_within from c.args.to _ _ (length xs) c.requires.space c.requires.within same in
    ap (λ (l : List ℕ). take from l) (all_back c.args.pixels.now.len mid c.args.pixels.now.items len) ∙ front_kept from size xs ys inside ∙ ap (λ (l : List ℕ). take from l) c.deref_mut.ensures.value

pub announce-requires : goal.announce-requires
announce-requires g c =
    let row = c.self.inside.rows.row in
    let below : row < mcus_down c.self.inside.part.scan.head = subst (λ (r : RowsValue). r.row < mcus_down r.scan.head) (sym c.self.view_is) c.requires.row in
    let there = subst (λ (s : ScanValue). row < mcus_down s.head) (sym c.scan.ensures) below in
    subst (λ (n : ℕ). n < mcus_down c.scan.result.now.head) (sym c.row-row.ensures) there

pub decode-marked-requires-clause-rows : goal.decode-marked-requires-clause-rows
decode-marked-requires-clause-rows g c = c.self.invariant.0

pub decode-marked-requires-clause-row : goal.decode-marked-requires-clause-row
decode-marked-requires-clause-row g c = subst (λ (r : RowsValue). r.row < mcus_down r.scan.head) (sym c.self.view_is) c.requires.row

pub decode-marked-requires-clause-space : goal.decode-marked-requires-clause-space
decode-marked-requires-clause-space g c = c.self.invariant.1

pub slice_bounds-paint_row-end : goal.slice_bounds-paint_row-end
slice_bounds-paint_row-end g c = all_within c.args.to _ _ c.requires.within (ap (λ (l : List ℕ). length l) c.deref_mut.ensures.value)

pub paint_row-requires-clause-row : goal.paint_row-requires-clause-row
paint_row-requires-clause-row g c =
    let row = c.self.inside.rows.row in
    let head = c.head-head.ensures.value ∙ ap (λ (s : ScanValue). s.head) c.scan-2.ensures in
    let below : row < mcus_down c.self.inside.part.scan.head = subst (λ (r : RowsValue). r.row < mcus_down r.scan.head) (sym c.self.view_is) c.requires.row in
    let there = subst (λ (h : HeadValue). row < mcus_down h) (sym head) below in
    subst (λ (n : ℕ). n < mcus_down c.head-head.result.now) (sym c.row-row.ensures) there

pub paint_row-requires-clause-space : goal.paint_row-requires-clause-space
paint_row-requires-clause-space g c =
    let head = c.head-head.ensures.value ∙ ap (λ (s : ScanValue). s.head) c.scan-2.ensures in
    subst (λ (h : HeadValue). HasSampleSpace h c.decode-marked.new.work) (sym head) c.decode-marked.ensures.space

pub paint_row-requires-clause-pixels : goal.paint_row-requires-clause-pixels
paint_row-requires-clause-pixels g c =
    let t = c.self.inside.part.scan in
    let row = c.self.inside.rows.row in
    let xs = c.deref_mut.result.now in
    let head = c.head-head.ensures.value ∙ ap (λ (s : ScanValue). s.head) c.scan-2.ensures in
    let space = subst (λ (r : RowsValue). c.args.to ≡ c.args.from + line_count r.scan.head r.row * line_size r.scan.head) (sym c.self.view_is) c.requires.space in
    let within = all_within c.args.to _ (length xs) c.requires.within (ap (λ (l : List ℕ). length l) c.deref_mut.ensures.value) in
    mid_len c.args.from c.args.to xs within ∙ size_is c.args.from c.args.to _ space ∙ ap (λ (h : HeadValue). line_count h row * line_size h) (sym head)
    ∙ ap (λ (n : ℕ). line_count c.head-head.result.now n * line_size c.head-head.result.now) (sym c.row-row.ensures)

pub invariant_of-self : goal.invariant_of-self
invariant_of-self g c =
    let head = c.head-head.ensures.value ∙ ap (λ (s : ScanValue). s.head) c.scan-2.ensures in
    (c.decode-marked.ensures.rows, subst (λ (h : HeadValue). HasSampleSpace h c.paint_row.new.self) head c.paint_row.ensures.space)

pub returns-clause-moved : goal.returns-clause-moved
returns-clause-moved g c =
    let t = c.self.inside.part.scan in
    let n = c.self.inside.part.limit in
    ap (λ (k : ℕ). record { scan = t; limit = n; row = k }) c.decode-marked.ensures.row ∙ ap (λ (r : RowsValue). record r { row = r.row + 1 }) c.self.view_is

pub returns-clause-counts : goal.returns-clause-counts
returns-clause-counts g c = subst (λ (r : RowsValue). CountsRow r.scan r.limit r.row c.decode-marked.result) c.self.view_is c.decode-marked.ensures.counts
