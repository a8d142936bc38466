use Rattle.std.proofs.Common.{◌≡◌, ℕ, ◌+◌, ◌-◌, ◌*◌, ◌<◌, ◌≤◌, ◌++◌, List, length, take, drop, refl, sym, ap, ◌∙◌, arith, rules}
use Rattle.std.proofs.lemmas.Slice.{drop-put_mid, take-put_mid}
use borrow.Rule.Slice.PartMut.{put_mid}
use Rattle.jr_head.specs.Geometry.{mcus_across, mcus_down}
use Rattle.jr_paint.specs.Lines.{line_size, next_lines_of}
use Rattle.jr_paint.proofs.PixelLaws.{next_lines_more}
use Rattle.jr_rows.specs.Rows.{line_count}
use Rattle.std.specs.Prelude.{true, false}
use Rattle.jr_arrival.proofs.PaintedLines.{kept_more, no_lines, row_lines}
use Rattle.jr_arrival.proofs.RowLines.{before_more, next_row, row_more}
use Rattle.jr_arrival.specs.declared.file_bytes.FileBytes.{FileBytes}
use Rattle.jr_arrival.specs.Places.{lines_above, lines_between}
use Rattle.jr_arrival.proofs.BetweenRows.{comes_first, comes_on, leaves_at, shows_row}
use Rattle.jr_arrival.proofs.rows.decode_rows.Goals as goal

pub rows-preserved : goal.rows-preserved
rows-preserved c =
    let h = c.args.head.now in
    let p = c.args.place.now in
    let keep = c.rows.invariant in
    let row = c.rows.next.row in
    let new = c.row_place-next.result in
    let come = keep.come in
    let walk = c.walk_row.ensures in
    let placed = c.row_place-next.ensures in
    let inside : row < mcus_down h = omega (arith, c.rows-test.true, c.end_of_rows-end.ensures.few) in
    let next : new.row ≡ row + 1 = placed.row in
    let from = c.span_of_row-from.result.0 in
    let to = c.span_of_row-from.result.1 in
    let pix = c.paint_row.new.pixels in
    let old = c.rows.pixels in
    let from_is : from ≡ lines_between h p.row row * line_size h = c.span_of_row-from.ensures.from in
    let to_is : to ≡ lines_between h p.row new.row * line_size h = c.span_of_row-from.ensures.to ∙ ap (λ (k : ℕ). lines_between h p.row k * line_size h) (sym next) in
    let order : from ≤ to = omega (arith, c.span_of_row-from.ensures.count) in
    let within : to ≤ length old = search (rules, arith, c.span_of_row-from.ensures.within) in
    let long : length pix ≡ to - from = search (rules, arith, c.paint_row.auto.pixels, order, within) in
    let before : drop from old ≡ drop from c.args.pixels.now = ap (λ (k : ℕ). drop k old) from_is ∙ keep.kept ∙ ap (λ (k : ℕ). drop k c.args.pixels.now) (sym from_is) in
    let after : drop to (put_mid from (to - from) old pix) ≡ drop to c.args.pixels.now =
    drop-put_mid from (to - from) old pix to (omega (arith, order)) (omega (arith, order, within)) long ∙ kept_more old c.args.pixels.now from to order before in
    let all : c.walk_row.result ≡ mcus_across h = omega (arith, walk.walks.few, c.if-walk_row-across.false, c.shape_of-across.ensures.across) in
    record {
      come = comes_on h c.args.file p c.rows.next c.rows.source come inside c.walk_row.new.source c.row_place-next.new.self c.walk_row.result new walk.walks.steps all (placed.steps h walk.walks.steps.at) next placed.interval placed.mcu (placed.place h);
      space = c.paint_row.ensures.space;
      few = omega (arith, next, c.rows-test.true);
      long = search (rules, arith, keep.long, long, order, within);
      lines = λ whole t marks f may is shows.
          let y = lines_above h p.row in
          let n = lines_between h p.row row in
          let m = line_count h row in
          let before = keep.lines whole t marks f may is shows in
          let shown = shows_row h c.args.file p c.rows.next c.rows.source come inside c.walk_row.new.source c.walk_row.result c.rows.samples.lines.groups c.walk_row.new.sink.lines.groups walk.walks all whole t may is in
          let some = c.assert_invariant.ensures.components.down in
          let there : y + n ≡ lines_above h row = omega (arith, before_more h some p.row row come.on) in
          let sum : n + m ≡ lines_between h p.row new.row = sym (next_row h some p.row row come.on inside) ∙ ap (lines_between h p.row) (sym next) in
          let painted : pix ≡ next_lines_of h f (y + n) m = row_lines t h marks f row c.walk_row.new.sink.lines.groups pix may.head inside shown c.paint_row.ensures.lines shows ∙ ap (λ (k : ℕ). next_lines_of h f k m) (sym (row_more h some row inside) ∙ sym there) in
          ap (λ (k : ℕ). take k (put_mid from (to - from) old pix)) (sym to_is)
          ∙ take-put_mid from (to - from) old pix to (omega (arith, long, order)) (omega (arith, order, within))
          ∙ ap (λ (k : ℕ). take k old ++ pix) from_is
          ∙ ap (λ (z : List ℕ). z ++ pix) before ∙ ap (λ (z : List ℕ). next_lines_of h f y n ++ z) painted ∙ sym (next_lines_more h f y n m) ∙ ap (next_lines_of h f y) sum;
      kept = ap (λ (k : ℕ). drop k (put_mid from (to - from) old pix)) (sym to_is) ∙ after ∙ ap (λ (k : ℕ). drop k c.args.pixels.now) to_is;
    }

pub returns-then-walk_row-across-clause-place : goal.returns-then-walk_row-across-clause-place
returns-then-walk_row-across-clause-place c whole t may is = (c.rows.invariant.come.place whole t may is).1

pub returns-clause-place : goal.returns-clause-place
returns-clause-place c whole t may is = (c.rows.invariant.come.place whole t may is).1

pub returns-then-walk_row-across-clause-lines : goal.returns-then-walk_row-across-clause-lines
returns-then-walk_row-across-clause-lines c = c.rows.invariant.lines

pub returns-clause-lines : goal.returns-clause-lines
returns-clause-lines c = c.rows.invariant.lines

pub returns-then-walk_row-across-clause-all : goal.returns-then-walk_row-across-clause-all
returns-then-walk_row-across-clause-all c all =
    let walk = c.walk_row.ensures in
    let waits = walk.waits (omega (arith, c.if-walk_row-across.true, c.shape_of-across.ensures.across)) in
    let wrong : true ≡ false = sym (ap (λ (f : FileBytes). f.are_all) (walk.walks.steps.part ∙ c.rows.invariant.come.file) ∙ all) ∙ waits.goes_on in
    absurd (let stated : true ≡ false = wrong in cc)

pub span_of_row-from-requires-clause-space : goal.span_of_row-from-requires-clause-space
span_of_row-from-requires-clause-space c = omega (arith, c.end_of_rows-end.ensures.fits (c.rows.next.row + 1) (omega (arith, c.rows-test.true)), c.rows.invariant.long)

pub rows-init : goal.rows-init
rows-init c =
    let h = c.args.head.now in
    let e = c.in_ok-source.ensures in
    record {
      come = comes_first c.args.head.now c.args.file c.args.place.now c.in_ok-source.source c.requires.lies e.at e.file e.before e.right;
      space = c.in_ok-samples.ensures;
      few = omega (arith, c.end_of_rows-end.ensures.value);
      long = refl;
      lines = λ whole t marks f may is shows. no_lines h f (lines_above h c.args.place.now.row) (lines_between h c.args.place.now.row c.args.place.now.row) c.args.pixels.now (omega arith);
      kept = refl;
    }

pub returns-then-walk_row-across-clause-most : goal.returns-then-walk_row-across-clause-most
returns-then-walk_row-across-clause-most c lt =
    let walk = c.walk_row.ensures in
    let few : c.walk_row.result < mcus_across c.args.head.now = omega (arith, c.if-walk_row-across.true, c.shape_of-across.ensures.across) in
    let inside : c.rows.next.row < mcus_down c.args.head.now = omega (arith, c.rows-test.true, c.end_of_rows-end.ensures.few) in
    leaves_at c.args.head.now c.args.file c.args.place.now c.rows.next c.rows.source c.rows.invariant.come inside c.walk_row.new.source c.walk_row.result walk.walks.steps few (walk.waits (omega (arith, few)))

pub returns-clause-most : goal.returns-clause-most
returns-clause-most c lt =
    absurd (omega (arith, lt, c.rows-test.false, c.end_of_rows-end.ensures.value))
