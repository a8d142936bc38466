use Rattle.std.proofs.Common.{◌≡◌, ◌+◌, ◌*◌, ◌-◌, ◌≤◌, ◌++◌, ◌∙◌, ap, sym, length, take, arith, rules}
use Rattle.std.proofs.Math.Nat.{add-mul}
use Rattle.std.proofs.lemmas.List.{take_all}
use Rattle.std.proofs.lemmas.Slice.{take-put_mid}
use borrow.Rule.Slice.PartMut.{put_mid}
use Rattle.jr_paint.specs.Lines.{next_lines_of, line_size}
use Rattle.jr_paint.proofs.PixelLaws.{next_lines_more}
use Rattle.jr_paint.proofs.lines.paint_lines.Goals as goal

pub lines-preserved : goal.lines-preserved
lines-preserved g c =
    let h = g.S.Samples.head_of c.args.samples.now in
    let f = g.S.Samples.shown c.args.samples.now in
    let old = c.lines.filled in
    let end = c.bytes_to-end.result in
    let more = c.min-more.result in
    let line : c.bytes_of_line-line.result ≡ line_size h = search rules in
    let to : end ≡ (c.lines.painted + more) * line_size h = rw line at (c.bytes_to-end.ensures.value) in
    let size : end ≡ old + more * line_size h = to ∙ add-mul c.lines.painted more (line_size h) ∙ ap (λ n. n + more * line_size h) (sym c.lines.invariant.filled) in
    let long : length c.fill_lines.new.pixels ≡ end - old = search (rules, arith, c.fill_lines.auto.pixels) in
    let inside : old ≤ length c.lines.pixels = search (rules, arith) in
    let front : take end (put_mid old (end - old) c.lines.pixels c.fill_lines.new.pixels) ≡ take old c.lines.pixels ++ c.fill_lines.new.pixels =
    take-put_mid old (end - old) c.lines.pixels c.fill_lines.new.pixels end (omega (arith, long, size)) inside in
    record {
      within = search (rules, arith);
      filled = to;
      long = search rules;
      front = front ∙ ap (λ z. z ++ c.fill_lines.new.pixels) c.lines.invariant.front ∙ ap (λ z. next_lines_of h f c.args.y c.lines.painted ++ z) c.fill_lines.ensures ∙ sym (next_lines_more h f c.args.y c.lines.painted more);
    }

pub returns : goal.returns
returns g c =
    let h = g.S.Samples.head_of c.args.samples.now in
    let all : c.lines.painted ≡ c.args.count = omega (arith, c.lines.invariant.within, c.lines-test.false) in
    let filled : c.lines.filled ≡ c.args.count * line_size h = c.lines.invariant.filled ∙ ap (λ n. n * line_size h) all in
    let long : length c.lines.pixels ≤ c.lines.filled = omega (arith, filled, c.lines.invariant.long, c.requires.pixels) in
    sym (take_all c.lines.filled c.lines.pixels long) ∙ c.lines.invariant.front ∙ ap (λ n. next_lines_of h (g.S.Samples.shown c.args.samples.now) c.args.y n) all
