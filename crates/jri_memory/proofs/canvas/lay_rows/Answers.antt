use Rattle.std.proofs.Common.{rules, arith, refl, sym, subst, ap, ◌∙◌, ◌≡◌, ℕ, ◌+◌, ◌*◌, ◌<◌, ◌≤◌, ◌^◌, min, length}
use Rattle.std.proofs.Math.Nat.{add-mul}
use Rattle.std.proofs.lemmas.Grind.{div_ceil_times}
use Rattle.jr_head.specs.HeadValue.{HeadValue}
use Rattle.jr_head.specs.Geometry.{mcus_across, mcus_down, vertical_max}
use Rattle.jr_scan.specs.FirstIntervalsValue.{FirstIntervalsValue}
use Rattle.jr_scan.specs.ScanValue.{ScanValue, intervals_of}
use Rattle.jr_paint.specs.Lines as paint
use Rattle.jr_paint.proofs.Places.{below_div_ceil}
use Rattle.jr_picture.specs.DecodedScan.{DecodedScan}
use Rattle.jr_picture.specs.Samples.{samples_of}
use Rattle.jr_rows.specs.Bands.{ShowsMcus}
use Rattle.jr_rows.specs.Groups.{units_in}
use Rattle.jr_rows.specs.MarkBytes.{HasMarkSpace, StoresBetween, StoresRow}
use Rattle.jr_rows.specs.Rows.{CountsMcus, CountsRow, DecodesFirst, HasSampleSpace, coded_before, first_line, intervals_before, line_count}
use Rattle.jr_rows.proofs.IntervalPlaces.{ends_few}
use Rattle.jr_rows.proofs.StoredMarks.{stores_both, stores_none}
use Rattle.jr_rows.proofs.ReadRows.{counts_both, counts_none}
use Rattle.jri_canvas.specs.Layouts.{LieOn, laid_line}
use Rattle.jri_canvas.proofs.Canvases.{lie_both, lie_none}
use Rattle.jri_memory.proofs.canvas.lay_rows.Goals as goal

pub with-marked-requires : goal.with-marked-requires
with-marked-requires c =
    let t = c.args.scan.now in
    let keep = c.rows.invariant in
    let marks = subst (λ (p : FirstIntervalsValue). CountsRow p.scan p.limit c.rows.rows.row c.decode-more.result) c.of-part.ensures c.decode-more.ensures.counts in
    let few = ends_few t.head (coded_before t.head (length t.intervals) (c.rows.rows.row + 1)) in
    let space : intervals_of t.head < 2 ^ 32 = search (rules, arith) in
    omega (arith, keep.counts.few, marks.few, few, space)

pub lay_row-requires-clause-places : goal.lay_row-requires-clause-places
lay_row-requires-clause-places c k from to =
    let height : c.head-head.result.now.height ≡ c.args.scan.now.head.height = search rules in
    omega (arith, c.requires.places k from (omega (arith, to, height)), c.rows.invariant.wide)

pub rows-preserved : goal.rows-preserved
rows-preserved c =
    let t = c.args.scan.now in
    let h = t.head in
    let n = length t.intervals in
    let form = c.args.form.now in
    let keep = c.rows.invariant in
    let row = c.rows.rows.row in
    let deep = 8 * vertical_max h in
    let bytes = c.decode-more.new.marks in
    let groups = c.decode-more.new.work.lines.groups in
    let head : c.head-head.result.now ≡ h = search rules in
    let row_is : c.row-row.result ≡ row = search rules in
    let next_row : c.decode-more.new.self.row ≡ row + 1 = search rules in
    let some : 0 < deep = search (rules, arith) in
    let more : row < mcus_down h = search (rules, arith) in
    let inside : row * deep < h.height = below_div_ceil row h.height deep some more in
    let before : min (row * deep) h.height ≡ first_line h row = omega (arith, inside) in
    let after : first_line h row + line_count h row ≡ min ((row + 1) * deep) h.height = omega (arith, inside, add-mul row 1 deep) in
    let end : first_line h row + line_count h row ≡ min (c.decode-more.new.self.row * deep) h.height = after ∙ ap (λ (k : ℕ). min (k * deep) h.height) (sym next_row) in
    let marks = subst (λ (p : FirstIntervalsValue). CountsRow p.scan p.limit row c.decode-more.result) c.of-part.ensures c.decode-more.ensures.counts in
    let stores = subst (λ (p : FirstIntervalsValue). StoresRow p.scan p.limit row c.rows.marks bytes) c.of-part.ensures c.decode-more.ensures.stores in
    record {
      rows = c.decode-more.ensures.rows;
      within = search (rules, arith);
      space = search rules;
      long = search (rules, keep.long, c.lay_row.ensures.long);
      wide = search (rules, keep.wide, c.lay_row.auto.canvas);
      lie = λ b first.
          let g = λ (k : ℕ). laid_line form (paint.line_of h (samples_of b) k) in
          let shows = (subst (λ (p : FirstIntervalsValue). (b : DecodedScan) → DecodesFirst p.scan p.limit b → ShowsMcus b (row * mcus_across p.scan.head) (units_in p.scan.head groups)) c.of-part.ensures c.decode-more.ensures.units) b first in
          let at_row = subst (λ (r : ℕ). b.scan.head ≡ c.head-head.result.now → ShowsMcus b (r * mcus_across c.head-head.result.now) (units_in c.head-head.result.now groups)
          → LieOn form (first_line c.head-head.result.now r) (first_line c.head-head.result.now r + line_count c.head-head.result.now r) (λ k. laid_line form (paint.line_of c.head-head.result.now (samples_of b) k)) c.rows.canvas c.lay_row.new.canvas) row_is (c.lay_row.ensures.lie b) in
          let there = subst (λ (d : HeadValue). b.scan.head ≡ d → ShowsMcus b (row * mcus_across d) (units_in d groups)
          → LieOn form (first_line d row) (first_line d row + line_count d row) (λ k. laid_line form (paint.line_of d (samples_of b) k)) c.rows.canvas c.lay_row.new.canvas) head at_row (ap (λ (s : ScanValue). s.head) first.scan_is) shows in
          let front : LieOn form 0 (first_line h row) g c.args.canvas.now c.rows.canvas = subst (λ (k : ℕ). LieOn form 0 k g c.args.canvas.now c.rows.canvas) before (keep.lie b first) in
          subst (λ (k : ℕ). LieOn form 0 k g c.args.canvas.now c.lay_row.new.canvas) end
          (lie_both form g c.requires.stride 0 (first_line h row) (first_line h row + line_count h row) c.args.canvas.now c.rows.canvas c.lay_row.new.canvas (omega arith) (omega arith) front there);
      counts = subst (λ (k : ℕ). CountsMcus t n (coded_before h n 0) (coded_before h n k) c.with-marked.result) (sym next_row)
          (counts_both t n _ _ _ c.rows.marked c.decode-more.result c.with-marked.result keep.counts marks c.with-marked.ensures.sound c.with-marked.ensures.damaged);
      places = λ there. stores.long ∙ keep.places (omega (arith, there, stores.long));
      stores = subst (λ (k : ℕ). StoresBetween t 0 k c.args.marks.now bytes) (sym next_row)
          (stores_both t n _ _ _ c.args.marks.now c.rows.marks bytes (omega (arith, keep.counts.few)) keep.stores stores);
    }

pub returns-clause-lie : goal.returns-clause-lie
returns-clause-lie c b first =
    let h = c.args.scan.now.head in
    let deep = 8 * vertical_max h in
    let some : 0 < deep = search (rules, arith) in
    let end : c.rows.rows.row ≡ mcus_down h = search (rules, arith) in
    let all : h.height ≤ mcus_down h * deep = (div_ceil_times h.height deep some).0 in
    let whole : min (c.rows.rows.row * deep) h.height ≡ h.height = ap (λ (k : ℕ). min (k * deep) h.height) end ∙ omega (arith, all) in
    subst (λ (k : ℕ). LieOn c.args.form.now 0 k (λ j. laid_line c.args.form.now (paint.line_of h (samples_of b) j)) c.args.canvas.now c.rows.canvas) whole (c.rows.invariant.lie b first)

pub returns-clause-counts : goal.returns-clause-counts
returns-clause-counts c =
    let t = c.args.scan.now in
    let n = length t.intervals in
    let end : c.rows.rows.row ≡ mcus_down t.head = search (rules, arith) in
    subst (λ (k : ℕ). CountsMcus t n (coded_before t.head n 0) (coded_before t.head n k) c.rows.marked) end c.rows.invariant.counts

pub returns-clause-stores : goal.returns-clause-stores
returns-clause-stores c =
    let t = c.args.scan.now in
    let end : c.rows.rows.row ≡ mcus_down t.head = search (rules, arith) in
    subst (λ (k : ℕ). StoresBetween t 0 k c.args.marks.now c.rows.marks) end c.rows.invariant.stores

pub rows-init : goal.rows-init
rows-init c =
    let t = c.args.scan.now in
    let h = t.head in
    let n = length t.intervals in
    let none = sym c.of-rows.ensures.row in
    let first : 0 ≡ min (0 * (8 * vertical_max h)) h.height = omega arith in
    record {
      rows = c.of-rows.ensures.rows;
      within = omega (arith, c.of-rows.ensures.row);
      space = c.requires.space;
      long = refl;
      wide = refl;
      lie = λ b _.
          let g = λ (k : ℕ). laid_line c.args.form.now (paint.line_of h (samples_of b) k) in
          subst (λ (k : ℕ). LieOn c.args.form.now 0 k g c.args.canvas.now c.args.canvas.now) (first ∙ ap (λ (k : ℕ). min (k * (8 * vertical_max h)) h.height) none) (lie_none c.args.form.now g 0 c.args.canvas.now);
      counts = counts_none t n _ _ c.none-marked.result c.none-marked.ensures.sound c.none-marked.ensures.damaged (ap (λ (k : ℕ). intervals_before h (coded_before h n k)) none);
      places = c.requires.marks;
      stores = stores_none t n _ _ c.args.marks.now (ap (λ (k : ℕ). intervals_before h (coded_before h n k)) none);
    }

pub decode-more-requires-clause-places : goal.decode-more-requires-clause-places
decode-more-requires-clause-places c = subst (λ (p : FirstIntervalsValue). HasMarkSpace p.scan c.rows.marks) (sym c.of-part.ensures) c.rows.invariant.places

pub lay_row-requires-clause-space : goal.lay_row-requires-clause-space
lay_row-requires-clause-space c =
    let work = c.decode-more.new.work in
    subst (λ (d : HeadValue). HasSampleSpace d work) (sym c.head-head.ensures.value) (subst (λ (p : FirstIntervalsValue). HasSampleSpace p.scan.head work) c.of-part.ensures c.decode-more.ensures.space)

pub lay_row-requires-clause-lines : goal.lay_row-requires-clause-lines
lay_row-requires-clause-lines c =
    subst (λ (d : HeadValue). 8 * vertical_max d * paint.line_size d ≤ length c.rows.lines) (sym c.head-head.ensures.value) (omega (arith, c.requires.lines, c.rows.invariant.long))

pub lay_row-requires-clause-line : goal.lay_row-requires-clause-line
lay_row-requires-clause-line c = c.requires.line ∙ ap (λ (d : HeadValue). paint.line_size d) (sym c.head-head.ensures.value)
