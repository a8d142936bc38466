use Rattle.std.proofs.Common.{refl, ◌≡◌, ◌+◌, ◌*◌, ◌-◌, ◌≤◌, ◌++◌, ◌∙◌, ℕ, length, length-drop, take, drop, sym, ap, subst, arith, rules}
use Rattle.std.proofs.Math.Nat.{mul-le-mul_right}
use Rattle.std.proofs.lemmas.List.{length-take-le}
use Rattle.jr_head.specs.HeadValue.{HeadValue}
use Rattle.jr_paint.specs.Lines.{line_size}
use Rattle.jr_paint.specs.Shades.{SharesChroma}
use Rattle.jr_paint.specs.Text.{header_of, lines_of}
use borrow.Rule.Slice.PartMut.{put_mid}
use Rattle.jr_base.proofs.Appending.{on_err, front_first}
use Rattle.jr_paint.proofs.Held.{nothing_written, written_on, painted, begun, rest_sent}
use Rattle.jr_paint.proofs.PixelLaws.{text_none, text_more, text_begins, text_is}
use Rattle.jr_paint.proofs.netpbm.write_lines.Goals as goal

pub lines-init : goal.lines-init
lines-init g c = record {
  within = search rules;
  filled = search rules;
  long = refl;
  unfailed = c.requires.unfailed;
  sent = rw (text_none, c.requires.header) (nothing_written g.W.Write.contents c.args.out.now _);
}

pub returns-in_err-filled : goal.returns-in_err-filled
returns-in_err-filled g c =
    let all = text_begins (g.S.Samples.head_of c.args.samples.now) (g.S.Samples.shown c.args.samples.now) c.lines.y (search rules) in
    let sent = begun g.W.Write.contents c.args.out.now c.lines.out c.make_space.new.out _ _ c.lines.invariant.sent c.in_err-filled.ensures.err in
    record {
      ok = search rules;
      err = on_err c.from_residual.result _ (rw all.1 (front_first _ all.0 sent));
      failed = search rules;
    }

pub lines-preserved : goal.lines-preserved
lines-preserved g c =
    let h = g.S.Samples.head_of c.args.samples.now in
    let f = g.S.Samples.shown c.args.samples.now in
    let known = g.W.Write.contents in
    let at = c.in_ok-filled.filled in
    let n = c.lines_at_once-count.result * c.bytes_of_line-line.result in
    let more : length c.fill_lines.new.pixels ≡ n = search (rules, arith, c.fill_lines.auto.pixels) in
    let space : at + n ≤ length c.lines.pixels = c.in_ok-filled.ensures.space in
    let before = header_of h ++ lines_of h f c.lines.y in
    let held = written_on known c.args.out.now c.lines.out c.make_space.new.out before (take c.lines.filled c.lines.pixels) (take at c.lines.pixels) c.lines.invariant.sent c.in_ok-filled.ensures.ok in
    let text : header_of h ++ lines_of h f (c.lines.y + c.lines_at_once-count.result) ≡ before ++ c.fill_lines.new.pixels = rw c.fill_lines.ensures (text_more h f c.lines.y c.lines_at_once-count.result) in
    let long : length (put_mid at (at + n - at) c.lines.pixels c.fill_lines.new.pixels) ≡ length c.lines.pixels = search (rules, arith, space) in
    record {
      within = search rules;
      filled = rw long space;
      long = long ∙ c.lines.invariant.long;
      unfailed = search rules;
      sent = rw text (painted known c.args.out.now c.make_space.new.out before c.lines.pixels c.fill_lines.new.pixels at n (at + n - at) more (omega (arith, space)) held);
    }

pub returns : goal.returns
returns g c =
    let end : c.lines.y ≡ (g.S.Samples.head_of c.args.samples.now).height = search rules in
    let sent = rw (end, ← text_is _ (g.S.Samples.shown c.args.samples.now)) at c.lines.invariant.sent in
    let all = c.write_all.ensures in
    rest_sent g.W.Write.contents c.args.out.now c.lines.out c.write_all.new.out c.write_all.result _ _ sent all.ok all.err all.failed

-- the lines that are painted at once fit into the space of two
batch : (count line : ℕ) (h g : HeadValue) (size old : ℕ) → count ≤ 2 → line ≡ line_size h → h ≡ g → 2 * line_size g ≤ old → size ≡ old → count * line ≤ size
batch count line h g size old few is same space long =
    let e : line ≡ line_size g = is ∙ ap (λ (x : HeadValue). line_size x) same in
    omega (arith, mul-le-mul_right {m = count} {n = 2} line few, e, space, long)

pub overflow_mul-size : goal.overflow_mul-size
overflow_mul-size g c = omega (arith, batch _ _ _ _ _ _ c.lines_at_once-count.ensures.few c.bytes_of_line-line.ensures.value c.head.ensures.value c.requires.pixels c.lines.invariant.long)

pub make_space-requires-clause-fits : goal.make_space-requires-clause-fits
make_space-requires-clause-fits g c = batch _ _ _ _ _ _ c.lines_at_once-count.ensures.few c.bytes_of_line-line.ensures.value c.head.ensures.value c.requires.pixels c.lines.invariant.long

pub overflow_add-end : goal.overflow_add-end
overflow_add-end g c = omega (arith, c.in_ok-filled.ensures.space)

pub lines_at_once-count-requires-clause-down : goal.lines_at_once-count-requires-clause-down
lines_at_once-count-requires-clause-down g c =
    let high = c.height-height.ensures.value ∙ ap (λ (x : HeadValue). x.height) c.head-2.ensures.value in
    omega (arith, c.lines-test.true, high, ap (λ (x : HeadValue). x.height) c.head-in-lines.ensures.value)

pub fill_lines-requires-clause-down : goal.fill_lines-requires-clause-down
fill_lines-requires-clause-down g c = omega (arith, c.lines_at_once-count.ensures.inside, ap (λ (x : HeadValue). x.height) c.head-in-lines.ensures.value)

pub fill_lines-requires-clause-shared : goal.fill_lines-requires-clause-shared
fill_lines-requires-clause-shared g c =
    let shared = subst (λ (x : HeadValue). c.lines_at_once-count.result ≡ 2 → SharesChroma x c.lines.y) c.head-in-lines.ensures.value c.lines_at_once-count.ensures.shared in
    search (rules, shared)

pub fill_lines-requires-clause-space : goal.fill_lines-requires-clause-space
fill_lines-requires-clause-space g c = omega (arith, c.requires.space, c.lines.auto.space)

pub fill_lines-requires-clause-pixels : goal.fill_lines-requires-clause-pixels
fill_lines-requires-clause-pixels g c =
    let at = c.in_ok-filled.filled in
    let n = c.lines_at_once-count.result * c.bytes_of_line-line.result in
    let line : c.bytes_of_line-line.result ≡ line_size (g.S.Samples.head_of c.args.samples.now) = c.bytes_of_line-line.ensures.value ∙ ap (λ (x : HeadValue). line_size x) c.head.ensures.value in
    let none : at + n - at ≡ n = omega arith in
    let inside : at + n - at ≤ length (drop at c.lines.pixels) = omega (arith, length-drop at c.lines.pixels, c.in_ok-filled.ensures.space) in
    let long = length-take-le (at + n - at) (drop at c.lines.pixels) inside ∙ none ∙ ap (λ (k : ℕ). c.lines_at_once-count.result * k) line in
    search (rules, long)

pub overflow_add-y : goal.overflow_add-y
overflow_add-y g c =
    let high = c.height-height.ensures.value ∙ ap (λ (x : HeadValue). x.height) c.head-2.ensures.value in
    omega (arith, c.lines_at_once-count.ensures.inside, ap (λ (x : HeadValue). x.height) c.head-in-lines.ensures.value, high, c.height-height.ensures.few)

pub lines-smaller : goal.lines-smaller
lines-smaller g c = omega (arith, c.lines-test.true, c.lines_at_once-count.ensures.some)

pub slice_bounds-write_all-end-2 : goal.slice_bounds-write_all-end-2
slice_bounds-write_all-end-2 g c = sym (length-take-le c.lines.filled c.lines.pixels c.lines.invariant.filled)
