use Rattle.std.proofs.Common.{refl, sym, subst, ap, rules, arith, ◌≡◌, ℕ, ◌+◌, ◌*◌, ◌-◌, ◌<◌, ◌≤◌, ◌++◌, ◌^◌, ◌∙◌, List, min, length, take, drop, take-add, Ok}
use Rattle.std.proofs.Math.Seq.{take-append_seam}
use Rattle.std.proofs.lemmas.List.{length-take-le}
use Rattle.std.proofs.lemmas.Nat.{mul-le}
use mir.Syntax.{w64}
use mir.Val.{Fits}
use Rattle.jr_base.specs.Tally.{Writes, WritesBeginning}
use Rattle.jr_base.proofs.Appending.{on_err, front_first}
use Rattle.jr_head.specs.HeadValue.{HeadValue}
use Rattle.jr_head.specs.Geometry.{IsValid, mcus_down, vertical_max}
use Rattle.jr_paint.specs.Lines.{line_size, next_lines_of}
use Rattle.jr_paint.specs.Text.{header_of, lines_of}
use Rattle.jr_paint.specs.Written.{WritesUpTo}
use Rattle.jr_paint.proofs.Held.{nothing_written, written_on, held_more, begun, rest_sent}
use Rattle.jr_paint.proofs.PixelLaws.{text_none, text_more, text_begins, text_is}
use Rattle.jr_picture.specs.Samples.{samples_of}
use Rattle.jr_scan.specs.ScanValue.{intervals_of}
use Rattle.jr_rows.specs.Rows.{CountsMcus, CountsRow, ShowsLines, coded_before, first_line, line_count}
use Rattle.jr_rows.specs.RowsValue.{RowsValue}
use Rattle.jr_rows.proofs.Lent.{all_back}
use Rattle.jr_rows.proofs.IntervalPlaces.{ends_few}
use Rattle.jr_rows.proofs.SomeLines.{lines_fit}
use Rattle.jr_rows.proofs.PictureRows.{no_lines, all_lines}
use Rattle.jr_rows.proofs.ReadRows.{counts_none, counts_both}
use Rattle.jr_rows.proofs.writing.write_rows.Goals as goal

-- sizes and counts as plain numbers, for goals with many facts
lines_of_deep : (count most deep : ℕ) → count ≤ most → deep ≡ most → deep ≤ 32 → count ≤ 32
lines_of_deep count most deep few e low = omega (arith, few, e, low)

size_fits : (count line : ℕ) → count ≤ 32 → line ≤ 196605 → Fits w64 (count * line)
size_fits count line few short = let all = mul-le count line 32 196605 few short in omega (arith, all)

marks_fit : (from a b at to all : ℕ) → from + a ≤ at → at + b ≤ to → to ≤ all → all < 2 ^ 32 → a + b < 2 ^ 32
marks_fit from a b at to all before here few fits = omega (arith, before, here, few, fits)

pub rows-init : goal.rows-init
rows-init g c =
    let at = g.P.RowPainter.at c.args.painter.now in
    let h = at.scan.head in
    let known = g.W.Write.contents in
    let old = c.args.pixels.now in
    let new = c.write_header-filled.new.bytes in
    let end = c.write_header-filled.result in
    let same : length new ≡ length old.items = c.write_header-filled.auto.bytes ∙ ap (λ (l : List ℕ). length l) c.deref_mut.ensures.value in
    let long : old.len ≡ length new = old.ok.0 ∙ sym same in
    let is : take old.len (new ++ drop (length new) old.items) ≡ new = ap (λ (n : ℕ). take n (new ++ drop (length new) old.items)) long ∙ take-append_seam new (drop (length new) old.items) in
    let inside : end ≤ length new = omega (arith, same, c.write_header-filled.ensures.end, c.requires.header) in
    record {
      within = omega arith;
      at_row = ap (λ n. record at { row = n }) c.requires.start;
      pixels = refl;
      filled = subst (λ (ps : List ℕ). end ≤ length ps) (sym is) inside;
      unfailed = c.requires.unfailed;
      counts = counts_none at.scan at.limit _ _ c.none-marked.result c.none-marked.ensures.sound c.none-marked.ensures.damaged refl;
      sent = λ b first.
          let f = samples_of b in
          let header = take end new in
          let nothing = nothing_written known c.args.out.now header in
          let all : WritesUpTo known c.args.out.now c.args.out.now (header_of h ++ lines_of h f (min (0 * (8 * vertical_max h)) h.height)) header = rw (no_lines h, text_none h f, ← (c.write_header-filled.ensures.front ∙ ap header_of c.requires.head)) nothing in
          let held = subst (λ (ps : List ℕ). WritesUpTo known c.args.out.now c.args.out.now (header_of h ++ lines_of h f (min (0 * (8 * vertical_max h)) h.height)) (take end ps)) (sym is) all in
          search (rules, held);
    }

pub returns-in_err-filled-clause-sent : goal.returns-in_err-filled-clause-sent
returns-in_err-filled-clause-sent g c b first =
    let h = (g.P.RowPainter.at c.args.painter.now).scan.head in
    let y = min (c.rows.row * (8 * vertical_max h)) h.height in
    let all = text_begins h (samples_of b) y (omega arith) in
    let failed = subst (λ (ps : List ℕ). WritesBeginning g.W.Write.contents c.rows.out c.make_space.new.out (take c.rows.filled ps)) c.deref.ensures.value c.in_err-filled.ensures.err in
    let sent = begun g.W.Write.contents c.args.out.now c.rows.out c.make_space.new.out _ _ (c.rows.invariant.sent b first) failed in
    record {
      ok = search rules;
      err = on_err c.from_residual.result _ (rw all.1 (front_first _ all.0 sent));
      failed = search rules;
    }

pub rows-preserved : goal.rows-preserved
rows-preserved g c =
    let at = g.P.RowPainter.at c.args.painter.now in
    let h = at.scan.head in
    let known = g.W.Write.contents in
    let row = c.rows.row in
    let here = c.rows.invariant.at_row in
    let y = c.lines_of-y.result.0 in
    let count = c.lines_of-y.result.1 in
    let filled = c.in_ok-filled.filled in
    let old = c.rows.pixels.items in
    let new = c.paint-more.new.pixels.items in
    let n = count * c.shape_of-shape.result.line in
    let pix = take (filled + n - filled) (drop filled new) in
    let head = c.requires.head in
    let space : filled + n ≤ length old = subst (λ (ps : List ℕ). filled + n ≤ length ps) c.deref.ensures.value c.in_ok-filled.ensures.space in
    let made : WritesUpTo known c.rows.out c.make_space.new.out (take c.rows.filled old) (take filled old) = subst (λ (ps : List ℕ). WritesUpTo known c.rows.out c.make_space.new.out (take c.rows.filled ps) (take filled ps)) c.deref.ensures.value c.in_ok-filled.ensures.ok in
    let long : length new ≡ length old = c.paint-more.ensures.long in
    let more : filled + n - filled ≡ n = omega arith in
    let whole : take (filled + n) new ≡ take filled old ++ pix = take-add filled n new ∙ ap (λ (zs : List ℕ). zs ++ take n (drop filled new)) c.paint-more.ensures.kept ∙ ap (λ (k : ℕ). take filled old ++ take k (drop filled new)) (sym more) in
    let lines : ShowsLines at.scan at.limit row pix = subst (λ (r : RowsValue). ShowsLines r.scan r.limit r.row pix) here c.paint-more.ensures.lines in
    let marks : CountsRow at.scan at.limit row c.paint-more.result = subst (λ (r : RowsValue). CountsRow r.scan r.limit r.row c.paint-more.result) here c.paint-more.ensures.counts in
    record {
      within = omega (arith, c.rows-test.true, c.shape_of-shape.ensures.down ∙ ap (λ (k : HeadValue). mcus_down k) head);
      at_row = c.paint-more.ensures.moved ∙ ap (λ (r : RowsValue). record r { row = r.row + 1 }) here;
      pixels = long ∙ c.rows.invariant.pixels;
      filled = rw long space;
      unfailed = search rules;
      counts = counts_both at.scan at.limit _ _ _ c.rows.marked c.paint-more.result c.with-marked.result c.rows.invariant.counts marks c.with-marked.ensures.sound c.with-marked.ensures.damaged;
      sent = λ b first.
          let f = samples_of b in
          let before = header_of h ++ lines_of h f y in
          let first_is : y ≡ first_line h row = c.lines_of-y.ensures.first ∙ ap (λ (k : HeadValue). first_line k row) head in
          let count_is : count ≡ line_count h row = c.lines_of-y.ensures.count ∙ ap (λ (k : HeadValue). line_count k row) head in
          let before_is : min (row * (8 * vertical_max h)) h.height ≡ y = subst (λ (k : HeadValue). min (row * (8 * vertical_max k)) k.height ≡ y) head c.lines_of-y.ensures.before in
          let next : min ((row + 1) * (8 * vertical_max h)) h.height ≡ y + count = subst (λ (k : HeadValue). min ((row + 1) * (8 * vertical_max k)) k.height ≡ y + count) head c.lines_of-y.ensures.next in
          let pixels : pix ≡ next_lines_of h f y count = lines b first ∙ ap (λ (k : ℕ). next_lines_of h f k (line_count h row)) (sym first_is) ∙ ap (λ (k : ℕ). next_lines_of h f y k) (sym count_is) in
          let text : header_of h ++ lines_of h f (y + count) ≡ before ++ pix = text_more h f y count ∙ ap (λ z. before ++ z) (sym pixels) in
          let prior = subst (λ k. WritesUpTo known c.args.out.now c.rows.out (header_of h ++ lines_of h f k) (take c.rows.filled old)) before_is (c.rows.invariant.sent b first) in
          let held = written_on known c.args.out.now c.rows.out c.make_space.new.out before (take c.rows.filled old) (take filled old) prior made in
          let all = held_more known c.args.out.now c.make_space.new.out before (take filled old) pix held in
          subst (λ k. WritesUpTo known c.args.out.now c.make_space.new.out (header_of h ++ lines_of h f k) (take (filled + n) new)) (sym next) (rw (text, whole) all);
    }

pub returns-in_err-write_all-clause-sent : goal.returns-in_err-write_all-clause-sent
returns-in_err-write_all-clause-sent g c b first =
    let h = (g.P.RowPainter.at c.args.painter.now).scan.head in
    let end : c.rows.row ≡ mcus_down h = omega (arith, c.rows.invariant.within, c.rows-test.false, c.shape_of-shape.ensures.down ∙ ap (λ (k : HeadValue). mcus_down k) c.requires.head) in
    let valid : IsValid h = subst (λ (k : HeadValue). IsValid k) c.requires.head c.assert_invariant.ensures in
    let sent = rw (end, all_lines h valid, ← text_is h (samples_of b)) at (c.rows.invariant.sent b first) in
    let failed = subst (λ (ps : List ℕ). WritesBeginning g.W.Write.contents c.rows.out c.write_all.new.out (take c.rows.filled ps)) c.deref-2.ensures.value c.in_err-write_all.ensures.err in
    record {
      ok = search rules;
      err = on_err c.from_residual-in_err-write_all.result _ (begun g.W.Write.contents c.args.out.now c.rows.out c.write_all.new.out _ _ sent failed);
      failed = search rules;
    }

pub returns-clause-counts : goal.returns-clause-counts
returns-clause-counts g c =
    let at = g.P.RowPainter.at c.args.painter.now in
    let end : c.rows.row ≡ mcus_down at.scan.head = omega (arith, c.rows.invariant.within, c.rows-test.false, c.shape_of-shape.ensures.down ∙ ap (λ (k : HeadValue). mcus_down k) c.requires.head) in
    subst (λ (r : ℕ). CountsMcus at.scan at.limit (coded_before at.scan.head at.limit 0) (coded_before at.scan.head at.limit r) c.rows.marked) end c.rows.invariant.counts

pub returns-clause-sent : goal.returns-clause-sent
returns-clause-sent g c b first =
    let h = (g.P.RowPainter.at c.args.painter.now).scan.head in
    let end : c.rows.row ≡ mcus_down h = omega (arith, c.rows.invariant.within, c.rows-test.false, c.shape_of-shape.ensures.down ∙ ap (λ (k : HeadValue). mcus_down k) c.requires.head) in
    let valid : IsValid h = subst (λ (k : HeadValue). IsValid k) c.requires.head c.assert_invariant.ensures in
    let sent = rw (end, all_lines h valid, ← text_is h (samples_of b)) at (c.rows.invariant.sent b first) in
    let ready = take c.rows.filled c.rows.pixels.items in
    let ok : Writes g.W.Write.contents c.rows.out c.write_all.new.out ready = search (rules, c.in_ok-write_all.ensures.ok) in
    rest_sent g.W.Write.contents c.args.out.now c.rows.out c.write_all.new.out (Ok c.rows.marked) _ _ sent ok tt (search rules)

pub make_space-requires-clause-fits : goal.make_space-requires-clause-fits
make_space-requires-clause-fits g c =
    let h = c.args.head.now in
    let fit = lines_fit c.lines_of-y.result.1 (8 * vertical_max h) c.shape_of-shape.result.line (line_size h) (length c.args.pixels.now.items) c.lines_of-y.ensures.few c.shape_of-shape.ensures.line c.requires.pixels in
    let held = c.args.pixels.now in
    let new = c.write_header-filled.new.bytes in
    let same : held.len ≡ length held.items = held.ok.0 in
    let wide : held.len ≡ length new = same ∙ sym (c.write_header-filled.auto.bytes ∙ ap (λ (l : List ℕ). length l) c.deref_mut.ensures.value) in
    let start = ap (λ (l : List ℕ). length l) (all_back held.len new held.items wide) ∙ sym wide ∙ same in
    let long = ap (λ (l : List ℕ). length l) c.deref.ensures.value ∙ c.rows.invariant.pixels ∙ start in
    subst (λ (n : ℕ). c.lines_of-y.result.1 * c.shape_of-shape.result.line ≤ n) (sym long) fit

pub lines_of-y-requires : goal.lines_of-y-requires
lines_of-y-requires g c = subst (λ (n : ℕ). c.rows.row < n) c.shape_of-shape.ensures.down c.rows-test.true

pub make_space-requires-clause-unfailed : goal.make_space-requires-clause-unfailed
make_space-requires-clause-unfailed g c = c.rows.invariant.unfailed

pub make_space-requires-clause-filled : goal.make_space-requires-clause-filled
make_space-requires-clause-filled g c = subst (λ (ps : List ℕ). c.rows.filled ≤ length ps) (sym c.deref.ensures.value) c.rows.invariant.filled

pub overflow_mul-size : goal.overflow_mul-size
overflow_mul-size g c =
    let few = lines_of_deep c.lines_of-y.result.1 _ c.shape_of-shape.result.deep c.lines_of-y.ensures.few c.shape_of-shape.ensures.deep c.shape_of-shape.ensures.low in
    size_fits c.lines_of-y.result.1 c.shape_of-shape.result.line few c.shape_of-shape.ensures.short

pub paint-more-requires-clause-row : goal.paint-more-requires-clause-row
paint-more-requires-clause-row g c =
    let h = (g.P.RowPainter.at c.args.painter.now).scan.head in
    let down : c.shape_of-shape.result.down ≡ mcus_down h = c.shape_of-shape.ensures.down ∙ ap (λ (k : HeadValue). mcus_down k) c.requires.head in
    subst (λ (r : RowsValue). r.row < mcus_down r.scan.head) (sym c.rows.invariant.at_row) (subst (λ (n : ℕ). c.rows.row < n) down c.rows-test.true)

pub paint-more-requires-clause-within : goal.paint-more-requires-clause-within
paint-more-requires-clause-within g c =
    let end = c.in_ok-filled.filled + c.lines_of-y.result.1 * c.shape_of-shape.result.line in
    subst (λ (ps : List ℕ). end ≤ length ps) c.deref.ensures.value c.in_ok-filled.ensures.space

pub paint-more-requires-clause-space : goal.paint-more-requires-clause-space
paint-more-requires-clause-space g c =
    let h = (g.P.RowPainter.at c.args.painter.now).scan.head in
    let row = c.rows.row in
    let filled = c.in_ok-filled.filled in
    let count = c.lines_of-y.result.1 in
    let line = c.shape_of-shape.result.line in
    let count_is : count ≡ line_count h row = c.lines_of-y.ensures.count ∙ ap (λ (k : HeadValue). line_count k row) c.requires.head in
    let line_is : line ≡ line_size h = c.shape_of-shape.ensures.line ∙ ap (λ (k : HeadValue). line_size k) c.requires.head in
    let size : filled + count * line ≡ filled + line_count h row * line_size h = ap (λ (n : ℕ). filled + n * line) count_is ∙ ap (λ (n : ℕ). filled + line_count h row * n) line_is in
    subst (λ (r : RowsValue). filled + count * line ≡ filled + line_count r.scan.head r.row * line_size r.scan.head) (sym c.rows.invariant.at_row) size

pub with-marked-requires : goal.with-marked-requires
with-marked-requires g c =
    let at = g.P.RowPainter.at c.args.painter.now in
    let row = c.rows.row in
    let marks : CountsRow at.scan at.limit row c.paint-more.result = subst (λ (r : RowsValue). CountsRow r.scan r.limit r.row c.paint-more.result) c.rows.invariant.at_row c.paint-more.ensures.counts in
    let few = ends_few at.scan.head (coded_before at.scan.head at.limit (row + 1)) in
    let space : intervals_of at.scan.head < 2 ^ 32 = subst (λ (k : HeadValue). intervals_of k < 2 ^ 32) c.requires.head c.requires.intervals in
    marks_fit _ (c.rows.marked.sound + c.rows.marked.damaged) (c.paint-more.result.sound + c.paint-more.result.damaged) _ _ _ c.rows.invariant.counts.few marks.few few space

pub slice_bounds-write_all-end : goal.slice_bounds-write_all-end
slice_bounds-write_all-end g c =
    sym (length-take-le c.rows.filled c.deref-2.result.now (subst (λ (ps : List ℕ). c.rows.filled ≤ length ps) (sym c.deref-2.ensures.value) c.rows.invariant.filled))

pub write_all-requires : goal.write_all-requires
write_all-requires g c = c.rows.invariant.unfailed

pub rows-smaller : goal.rows-smaller
rows-smaller g c =
    let down = c.shape_of-shape.ensures.down ∙ ap (λ (k : HeadValue). mcus_down k) c.requires.head in
    let lt = subst (λ (n : ℕ). c.rows.row < n) down c.rows-test.true in
    omega (arith, lt)
