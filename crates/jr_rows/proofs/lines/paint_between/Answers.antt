use Rattle.std.proofs.Common.{rules, arith, refl, sym, subst, ap, ◌∙◌, ◌≡◌, ℕ, ◌+◌, ◌-◌, ◌*◌, ◌<◌, ◌≤◌, ◌++◌, ◌^◌, take_all, le_of_lt, min, max, length, take}
use Rattle.std.proofs.Math.Nat.{add-mul}
use Rattle.std.proofs.lemmas.Slice.{take-put_mid}
use borrow.Rule.Slice.PartMut.{mid_len, put_mid, same_len_mid}
use Rattle.jr_head.specs.HeadValue.{HeadValue}
use Rattle.jr_head.specs.Geometry.{IsValid, mcus_across, mcus_down, vertical_max}
use Rattle.jr_scan.specs.ScanValue.{ScanValue, intervals_of}
use Rattle.jr_scan.specs.FirstIntervalsValue.{FirstIntervalsValue}
use Rattle.jr_paint.specs.Lines.{line_size, next_lines_of}
use Rattle.jr_paint.proofs.PixelLaws.{next_lines_more}
use Rattle.jr_picture.specs.DecodedScan.{DecodedScan}
use Rattle.jr_picture.specs.Samples.{samples_of}
use Rattle.jr_rows.specs.Bands.{ShowsMcus, samples_in}
use Rattle.jr_rows.specs.Groups.{units_in}
use Rattle.jr_rows.specs.MarkBytes.{HasMarkSpace, StoresBetween, StoresRow}
use Rattle.jr_rows.specs.Rows.{CountsRow, DecodesFirst, HasSampleSpace, coded_before}
use Rattle.jr_rows.specs.SomeLines.{CountsBetween, row_after, row_with}
use Rattle.jr_rows.proofs.IntervalPlaces.{ends_few}
use Rattle.jr_rows.proofs.PaintedRows.{row_painted}
use Rattle.jr_rows.proofs.StoredMarks.{stores_both, stores_none}
use Rattle.jr_rows.proofs.ReadRows.{counts_none, counts_both}
use Rattle.jr_rows.proofs.SomeLines.{done_lines, next_done}
use Rattle.jr_rows.proofs.lines.paint_between.Goals as goal

-- orders of plain numbers, for goals with many facts
below : (a b n : ℕ) → a < b → b ≤ n → a < n
below a b n lt le = omega (arith, lt, le)

from_first : (y first at : ℕ) → y ≡ max first at → first ≤ y
from_first y first at e = omega (arith, e)

to_first : (first end y count at : ℕ) → y + count ≡ min end at → y - first ≤ end - first
to_first first end y count at e = omega (arith, e)

to_end : (first end y count a b : ℕ) → first < end → y ≡ max first a → y + count ≡ min end b → y - first + count ≤ end - first
to_end first end y count a b some at to = omega (arith, some, at, to)

few_lines : (first end height : ℕ) → end ≤ height → height < 65536 → end - first < 65536
few_lines first end height le low = omega (arith, le, low)

falls : (row next end : ℕ) → row < end → next ≡ row + 1 → end - next < end - row
falls row next end lt e = omega (arith, lt, e)

pub rows-init : goal.rows-init
rows-init c =
    let t = c.args.scan.now in
    let h = t.head in
    let head : c.head-head.result.now ≡ h = c.head-head.ensures.value in
    let starts : c.rows_of-row.result.0 * (8 * vertical_max h) ≤ c.args.first = subst (λ (g : HeadValue). c.rows_of-row.result.0 * (8 * vertical_max g) ≤ c.args.first) head c.rows_of-row.ensures.starts in
    let reaches : c.args.first < (c.rows_of-row.result.0 + 1) * (8 * vertical_max h) = subst (λ (g : HeadValue). c.args.first < (c.rows_of-row.result.0 + 1) * (8 * vertical_max g)) head c.rows_of-row.ensures.reaches in
    let none : done_lines h c.args.first c.args.end c.rows_of-row.result.0 ≡ 0 = omega (arith, starts, c.requires.some) in
    let at : c.at-rows.result.row ≡ c.rows_of-row.result.0 = c.at-rows.ensures.row in
    let none_done : done_lines h c.args.first c.args.end c.at-rows.result.row ≡ 0 = ap (done_lines h c.args.first c.args.end) at ∙ none in
    let first_is : row_with h c.args.first ≡ c.at-rows.result.row = sym (at ∙ c.rows_of-row.ensures.first ∙ ap (λ (g : HeadValue). row_with g c.args.first) head) in
    record {
      rows = c.at-rows.ensures.rows;
      within = omega (arith, at, c.rows_of-row.ensures.some);
      reaches = subst (λ (k : ℕ). c.args.first < (k + 1) * (8 * vertical_max h)) (sym at) reaches;
      space = c.requires.space;
      long = refl;
      front = λ b first.
          let zero : 0 * line_size h ≡ 0 = omega arith in
          ap (λ (k : ℕ). take (k * line_size h) c.args.pixels.now) none_done ∙ ap (λ (k : ℕ). take k c.args.pixels.now) zero ∙ ap (next_lines_of h (samples_of b) c.args.first) (sym none_done);
      counts = rw first_is (counts_none t (length t.intervals) _ _ c.none-marked.result c.none-marked.ensures.sound c.none-marked.ensures.damaged refl);
      places = c.requires.places;
      stores = rw first_is (stores_none t (length t.intervals) _ _ c.args.marks.now refl);
    }

pub with-marked-requires : goal.with-marked-requires
with-marked-requires c =
    let t = c.args.scan.now in
    let keep = c.rows.invariant in
    let marks = subst (λ (p : FirstIntervalsValue). CountsRow p.scan p.limit c.rows.rows.row c.decode-more.result) c.of-part.ensures c.decode-more.ensures.counts in
    let few = ends_few t.head (coded_before t.head (length t.intervals) (c.rows.rows.row + 1)) in
    let space : intervals_of t.head < 2 ^ 32 = search (rules, arith) in
    omega (arith, keep.counts.few, marks.few, few, space)

pub rows-preserved : goal.rows-preserved
rows-preserved c =
    let t = c.args.scan.now in
    let h = t.head in
    let n = length t.intervals in
    let keep = c.rows.invariant in
    let row = c.rows.rows.row in
    let y = c.lines_in-y.result.0 in
    let count = c.lines_in-y.result.1 in
    let work = c.decode-more.new.work in
    let old_done = done_lines h c.args.first c.args.end row in
    let from = c.bytes_to-from.result in
    let to = c.bytes_to-to.result in
    let pix = c.paint_some.new.pixels in
    let hd = c.head-head.result.now in
    let head : hd ≡ h = c.head-head.ensures.value in
    let valid : IsValid h = subst (λ (g : HeadValue). IsValid g) head c.head-head.ensures.valid in
    let deep = 8 * vertical_max h in
    let more : row < c.rows_of-row.result.1 = omega (arith, c.row.ensures, c.rows-test.true) in
    let starts : row * deep < c.args.end = subst (λ (g : HeadValue). row * (8 * vertical_max g) < c.args.end) head (c.rows_of-row.ensures.last row more) in
    let at : y ≡ max c.args.first (row * deep) = c.lines_in-y.ensures.first ∙ ap (λ (k : ℕ). max c.args.first (k * (8 * vertical_max hd))) c.row-row.ensures ∙ ap (λ (g : HeadValue). max c.args.first (row * (8 * vertical_max g))) head in
    let ends : y + count ≡ min c.args.end ((row + 1) * deep) = c.lines_in-y.ensures.end ∙ ap (λ (k : ℕ). min c.args.end ((k + 1) * (8 * vertical_max hd))) c.row-row.ensures ∙ ap (λ (g : HeadValue). min c.args.end ((row + 1) * (8 * vertical_max g))) head in
    let done = next_done h c.args.first c.args.end row y count c.requires.some starts keep.reaches at ends in
    let next_row : c.decode-more.new.self.row ≡ row + 1 = c.decode-more.ensures.row in
    let line : c.shape_of-line.result.line ≡ line_size h = c.shape_of-line.ensures.line ∙ ap (λ (g : HeadValue). line_size g) head in
    let space : length c.rows.pixels ≡ (c.args.end - c.args.first) * c.shape_of-line.result.line = keep.long ∙ c.requires.pixels ∙ ap (λ (k : ℕ). (c.args.end - c.args.first) * k) (sym line) in
    let from_is : from ≡ old_done * line_size h = c.bytes_to-from.ensures.value ∙ ap (λ (k : ℕ). (y - c.args.first) * k) line ∙ ap (λ (k : ℕ). k * line_size h) {y = old_done} (omega (arith, done.0)) in
    let to_is : to ≡ (old_done + count) * line_size h = c.bytes_to-to.ensures.value ∙ ap (λ (k : ℕ). (y - c.args.first + count) * k) line ∙ ap (λ (k : ℕ). k * line_size h) {y = old_done + count} (omega (arith, done.0)) in
    let sum = add-mul old_done count (line_size h) in
    let size : to - from ≡ count * line_size h = omega (arith, from_is, to_is, sum) in
    let long : length pix ≡ to - from = c.paint_some.auto.pixels ∙ mid_len from to c.rows.pixels (omega (arith, c.bytes_to-to.ensures.within, space)) in
    let end_is : to ≡ from + length pix = omega (arith, long, from_is, to_is, sum) in
    let inside : from ≤ length c.rows.pixels = omega (arith, c.bytes_to-from.ensures.within, space) in
    let next : done_lines h c.args.first c.args.end c.decode-more.new.self.row ≡ old_done + count = ap (done_lines h c.args.first c.args.end) next_row ∙ done.1 in
    let marks = subst (λ (p : FirstIntervalsValue). CountsRow p.scan p.limit row c.decode-more.result) c.of-part.ensures c.decode-more.ensures.counts in
    let bytes = c.decode-more.new.marks in
    let stores = subst (λ (p : FirstIntervalsValue). StoresRow p.scan p.limit row c.rows.marks bytes) c.of-part.ensures c.decode-more.ensures.stores in
    record {
      rows = c.decode-more.ensures.rows;
      within = omega (arith, next_row, more);
      reaches = omega (arith, keep.reaches, ap (λ (k : ℕ). (k + 1) * deep) next_row, add-mul row 1 deep, add-mul (row + 1) 1 deep);
      space = subst (λ (g : HeadValue). HasSampleSpace g c.paint_some.new.self) head c.paint_some.ensures.space;
      long = same_len_mid from (to - from) c.rows.pixels pix c.paint_some.auto.pixels ∙ keep.long;
      front = λ b first.
          let f = samples_of b in
          let before = next_lines_of h f c.args.first old_done in
          let start : y ≡ row * deep + (y - row * deep) = omega (arith, at) in
          let few : y - row * deep + count ≤ deep = omega (arith, at, ends, add-mul row 1 deep) in
          let down : y + count ≤ h.height = omega (arith, ends, c.requires.inside) in
          let shows = (subst (λ (p : FirstIntervalsValue). (b : DecodedScan) → DecodesFirst p.scan p.limit b → ShowsMcus b (row * mcus_across p.scan.head) (units_in p.scan.head work.lines.groups)) c.of-part.ensures c.decode-more.ensures.units) b first in
          let shown = ap (λ (g : HeadValue). next_lines_of g (samples_in (record { head = g; groups = work.lines.groups })) y count) head
          ∙ row_painted b h (ap (λ (s : ScanValue). s.head) first.scan_is) valid work.lines.groups row shows y count (y - row * deep) start few down in
          let lines : pix ≡ next_lines_of h f (c.args.first + old_done) count = c.paint_some.ensures.lines ∙ shown ∙ ap (λ (k : ℕ). next_lines_of h f k count) done.0 in
          ap (λ (k : ℕ). take (k * line_size h) (put_mid from (to - from) c.rows.pixels pix)) next
          ∙ ap (λ (k : ℕ). take k (put_mid from (to - from) c.rows.pixels pix)) (sym to_is)
          ∙ take-put_mid from (to - from) c.rows.pixels pix to end_is inside
          ∙ ap (λ (k : ℕ). take k c.rows.pixels ++ pix) from_is
          ∙ ap (λ z. z ++ pix) (keep.front b first) ∙ ap (λ z. before ++ z) lines ∙ sym (next_lines_more h f c.args.first old_done count)
          ∙ ap (next_lines_of h f c.args.first) (sym next);
      counts = subst (λ (k : ℕ). CountsBetween t (row_with h c.args.first) k c.with-marked.result) (sym next_row)
          (counts_both t n _ _ _ c.rows.marked c.decode-more.result c.with-marked.result keep.counts marks c.with-marked.ensures.sound c.with-marked.ensures.damaged);
      places = λ there. stores.long ∙ keep.places (omega (arith, there, stores.long));
      stores = subst (λ (k : ℕ). StoresBetween t (row_with h c.args.first) k c.args.marks.now bytes) (sym next_row)
          (stores_both t n _ _ _ c.args.marks.now c.rows.marks bytes (omega (arith, keep.counts.few)) keep.stores stores);
    }

pub paint_some-requires : goal.paint_some-requires
paint_some-requires c =
    let h = c.args.scan.now.head in
    let hd = c.head-head.result.now in
    let head : hd ≡ h = c.head-head.ensures.value in
    let keep = c.rows.invariant in
    let y = c.lines_in-y.result.0 in
    let count = c.lines_in-y.result.1 in
    let from = c.bytes_to-from.result in
    let to = c.bytes_to-to.result in
    let line = c.shape_of-line.result.line in
    let line_is : line ≡ line_size h = c.shape_of-line.ensures.line ∙ ap (λ (g : HeadValue). line_size g) head in
    let part : to ≡ from + count * line_size hd = c.bytes_to-to.ensures.value ∙ add-mul (y - c.args.first) count line
    ∙ ap (λ (k : ℕ). k + count * line) (sym c.bytes_to-from.ensures.value) ∙ ap (λ (k : ℕ). from + count * k) c.shape_of-line.ensures.line in
    let space : length c.rows.pixels ≡ (c.args.end - c.args.first) * line = keep.long ∙ c.requires.pixels ∙ ap (λ (k : ℕ). (c.args.end - c.args.first) * k) (sym line_is) in
    record {
      space = subst (λ (g : HeadValue). HasSampleSpace g c.decode-more.new.work) (ap (λ (p : FirstIntervalsValue). p.scan.head) c.of-part.ensures ∙ sym head) c.decode-more.ensures.space;
      inside = omega (arith, c.lines_in-y.ensures.end, c.requires.inside, ap (λ (g : HeadValue). g.height) head);
      pixels = mid_len from to c.rows.pixels (omega (arith, c.bytes_to-to.ensures.within, space)) ∙ omega (arith, part);
    }

pub returns-clause-lines : goal.returns-clause-lines
returns-clause-lines c b first =
    let h = c.args.scan.now.head in
    let end : c.rows.rows.row ≡ c.rows_of-row.result.1 = omega (arith, c.row.ensures, c.rows-test.false, c.rows.invariant.within) in
    let ends : c.args.end ≤ c.rows_of-row.result.1 * (8 * vertical_max h) = subst (λ (g : HeadValue). c.args.end ≤ c.rows_of-row.result.1 * (8 * vertical_max g)) c.head-head.ensures.value c.rows_of-row.ensures.ends in
    let all : done_lines h c.args.first c.args.end c.rows.rows.row ≡ c.args.end - c.args.first =
    ap (done_lines h c.args.first c.args.end) end ∙ omega (arith, ends, c.requires.some) in
    let long : length c.rows.pixels ≡ (c.args.end - c.args.first) * line_size h = c.rows.invariant.long ∙ c.requires.pixels in
    let whole : take ((c.args.end - c.args.first) * line_size h) c.rows.pixels ≡ c.rows.pixels = take_all _ _ (omega (arith, long)) in
    sym whole ∙ ap (λ (k : ℕ). take (k * line_size h) c.rows.pixels) (sym all) ∙ c.rows.invariant.front b first ∙ ap (next_lines_of h (samples_of b) c.args.first) all

pub returns-clause-counts : goal.returns-clause-counts
returns-clause-counts c =
    let t = c.args.scan.now in
    let end : c.rows.rows.row ≡ c.rows_of-row.result.1 = omega (arith, c.row.ensures, c.rows-test.false, c.rows.invariant.within) in
    let after : c.rows.rows.row ≡ row_after t.head c.args.end = end ∙ c.rows_of-row.ensures.after ∙ ap (λ (g : HeadValue). row_after g c.args.end) c.head-head.ensures.value in
    subst (λ (r : ℕ). CountsBetween t (row_with t.head c.args.first) r c.rows.marked) after c.rows.invariant.counts

pub returns-clause-stores : goal.returns-clause-stores
returns-clause-stores c =
    let t = c.args.scan.now in
    let end : c.rows.rows.row ≡ c.rows_of-row.result.1 = omega (arith, c.row.ensures, c.rows-test.false, c.rows.invariant.within) in
    let after : c.rows.rows.row ≡ row_after t.head c.args.end = end ∙ c.rows_of-row.ensures.after ∙ ap (λ (g : HeadValue). row_after g c.args.end) c.head-head.ensures.value in
    subst (λ (r : ℕ). StoresBetween t (row_with t.head c.args.first) r c.args.marks.now c.rows.marks) after c.rows.invariant.stores

pub lines_in-y-requires-clause-starts : goal.lines_in-y-requires-clause-starts
lines_in-y-requires-clause-starts c = c.rows_of-row.ensures.last c.row-row.result (omega (arith, c.row-row.ensures, c.row.ensures, c.rows-test.true))

pub decode-more-requires-clause-places : goal.decode-more-requires-clause-places
decode-more-requires-clause-places c = subst (λ (p : FirstIntervalsValue). HasMarkSpace p.scan c.rows.marks) (sym c.of-part.ensures) c.rows.invariant.places

pub decode-more-requires-clause-space : goal.decode-more-requires-clause-space
decode-more-requires-clause-space c = subst (λ (p : FirstIntervalsValue). HasSampleSpace p.scan.head c.rows.work) (sym c.of-part.ensures) c.rows.invariant.space

pub bytes_to-from-requires-clause-short : goal.bytes_to-from-requires-clause-short
bytes_to-from-requires-clause-short c = c.shape_of-line.ensures.short

pub bytes_to-to-requires-clause-short : goal.bytes_to-to-requires-clause-short
bytes_to-to-requires-clause-short c = c.shape_of-line.ensures.short

pub slice_bounds-paint_some-end : goal.slice_bounds-paint_some-end
slice_bounds-paint_some-end c =
    let line : c.shape_of-line.result.line ≡ line_size c.args.scan.now.head = c.shape_of-line.ensures.line ∙ ap (λ (g : HeadValue). line_size g) c.head-head.ensures.value in
    let space = c.rows.invariant.long ∙ c.requires.pixels ∙ ap (λ (k : ℕ). (c.args.end - c.args.first) * k) (sym line) in
    omega (arith, c.bytes_to-to.ensures.within, space)

pub rows_of-row-requires-clause-inside : goal.rows_of-row-requires-clause-inside
rows_of-row-requires-clause-inside c = subst (λ (g : HeadValue). c.args.end ≤ g.height) (sym c.head-head.ensures.value) c.requires.inside

pub at-rows-requires-clause-all : goal.at-rows-requires-clause-all
at-rows-requires-clause-all c = subst (λ (p : FirstIntervalsValue). p.limit ≡ length p.scan.intervals) (sym c.of-part.ensures) refl

pub at-rows-requires-clause-row : goal.at-rows-requires-clause-row
at-rows-requires-clause-row c =
    let few = subst (λ (g : HeadValue). c.rows_of-row.result.1 ≤ mcus_down g) c.head-head.ensures.value c.rows_of-row.ensures.few in
    subst (λ (p : FirstIntervalsValue). c.rows_of-row.result.0 < mcus_down p.scan.head) (sym c.of-part.ensures) (below _ _ _ c.rows_of-row.ensures.some few)

pub decode-more-requires-clause-rows : goal.decode-more-requires-clause-rows
decode-more-requires-clause-rows c = c.rows.invariant.rows

pub decode-more-requires-clause-row : goal.decode-more-requires-clause-row
decode-more-requires-clause-row c =
    let few = subst (λ (g : HeadValue). c.rows_of-row.result.1 ≤ mcus_down g) c.head-head.ensures.value c.rows_of-row.ensures.few in
    let row : c.rows.rows.row < c.rows_of-row.result.1 = subst (λ (k : ℕ). k < c.rows_of-row.result.1) c.row.ensures c.rows-test.true in
    subst (λ (p : FirstIntervalsValue). c.rows.rows.row < mcus_down p.scan.head) (sym c.of-part.ensures) (below _ _ _ row few)

pub lines_in-y-requires-clause-row : goal.lines_in-y-requires-clause-row
lines_in-y-requires-clause-row c =
    let row : c.row-row.result < c.rows_of-row.result.1 = subst (λ (k : ℕ). k < c.rows_of-row.result.1) (c.row.ensures ∙ sym c.row-row.ensures) c.rows-test.true in
    below _ _ _ row c.rows_of-row.ensures.few

pub lines_in-y-requires-clause-reaches : goal.lines_in-y-requires-clause-reaches
lines_in-y-requires-clause-reaches c =
    let there = subst (λ (g : HeadValue). c.args.first < (c.rows.rows.row + 1) * (8 * vertical_max g)) (sym c.head-head.ensures.value) c.rows.invariant.reaches in
    subst (λ (k : ℕ). c.args.first < (k + 1) * (8 * vertical_max c.head-head.result.now)) (sym c.row-row.ensures) there

pub lines_in-y-requires-clause-some : goal.lines_in-y-requires-clause-some
lines_in-y-requires-clause-some c = c.requires.some

pub lines_in-y-requires-clause-inside : goal.lines_in-y-requires-clause-inside
lines_in-y-requires-clause-inside c = subst (λ (g : HeadValue). c.args.end ≤ g.height) (sym c.head-head.ensures.value) c.requires.inside

pub overflow_sub-y : goal.overflow_sub-y
overflow_sub-y c = from_first _ _ _ c.lines_in-y.ensures.first

pub overflow_sub-y-in-rows : goal.overflow_sub-y-in-rows
overflow_sub-y-in-rows c = from_first _ _ _ c.lines_in-y.ensures.first

pub overflow_sub-end : goal.overflow_sub-end
overflow_sub-end c = le_of_lt c.requires.some

pub overflow_sub-end-in-rows : goal.overflow_sub-end-in-rows
overflow_sub-end-in-rows c = le_of_lt c.requires.some

pub bytes_to-from-requires-clause-within : goal.bytes_to-from-requires-clause-within
bytes_to-from-requires-clause-within c = to_first c.args.first c.args.end c.lines_in-y.result.0 c.lines_in-y.result.1 _ c.lines_in-y.ensures.end

pub bytes_to-to-requires-clause-within : goal.bytes_to-to-requires-clause-within
bytes_to-to-requires-clause-within c = to_end c.args.first c.args.end c.lines_in-y.result.0 c.lines_in-y.result.1 _ _ c.requires.some c.lines_in-y.ensures.first c.lines_in-y.ensures.end

pub bytes_to-from-requires-clause-few : goal.bytes_to-from-requires-clause-few
bytes_to-from-requires-clause-few c =
    let low = subst (λ (g : HeadValue). g.height < 65536) c.head-head.ensures.value c.head-head.ensures.valid.low in
    few_lines c.args.first c.args.end _ c.requires.inside low

pub bytes_to-to-requires-clause-few : goal.bytes_to-to-requires-clause-few
bytes_to-to-requires-clause-few c =
    let low = subst (λ (g : HeadValue). g.height < 65536) c.head-head.ensures.value c.head-head.ensures.valid.low in
    few_lines c.args.first c.args.end _ c.requires.inside low

pub rows-smaller : goal.rows-smaller
rows-smaller c = falls c.rows.rows.row c.decode-more.new.self.row c.rows_of-row.result.1 (subst (λ (k : ℕ). k < c.rows_of-row.result.1) c.row.ensures c.rows-test.true) c.decode-more.ensures.row
