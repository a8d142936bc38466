use Rattle.std.proofs.Common.{rules, arith, sym, ap, ◌∙◌, ◌≡◌, ℕ, ◌+◌, ◌-◌, ◌*◌, ◌<◌, ◌≤◌, ◌++◌, min, length, take}
use Rattle.std.proofs.Math.Nat.{add-mul, mul-le-mul_right}
use Rattle.std.proofs.lemmas.Slice.{take-put_mid}
use borrow.Rule.Slice.PartMut.{put_mid}
use Rattle.jr_paint.specs.Lines.{line_size, next_lines_of}
use Rattle.jr_paint.proofs.PixelLaws.{next_lines_more}
use Rattle.jr_scan.specs.ScanValue.{ScanValue}
use Rattle.jr_picture.specs.Samples.{samples_of}
use Rattle.jr_arrival.proofs.partial_row.PartialRow.give.Goals as goal

pub returns-then-not-decode-clause-all : goal.returns-then-not-decode-clause-all
returns-then-not-decode-clause-all c lt = c.decode.ensures.none c.if-not-decode.true

pub paint-requires-clause-space : goal.paint-requires-clause-space
paint-requires-clause-space c =
    let h = c.args.scan.now.scan.head in
    let line : c.shape_of-line.result.line ≡ line_size h = search rules in
    let given = c.lines.given in
    let some = c.min-some.result in
    let from_is : c.bytes_to-from.result ≡ given * line_size h = c.bytes_to-from.ensures.value ∙ ap (λ (k : ℕ). given * k) line in
    let to_is : c.bytes_to-to.result ≡ (given + some) * line_size h = c.bytes_to-to.ensures.value ∙ ap (λ (k : ℕ). (given + some) * k) line in
    let sum = add-mul given some (line_size h) in
    let size : c.bytes_to-to.result - c.bytes_to-from.result ≡ some * line_size h = omega (arith, from_is, to_is, sum) in
    search (rules, arith, size)

pub lines-smaller : goal.lines-smaller
lines-smaller c =
    let s : ScanValue = c.args.scan.now.scan in
    let space : c.lines_with_space-space.result ≤ s.head.height - c.args.self.now.lines = search (rules, arith) in
    let here : c.decode.new.self.lines ≡ c.args.self.now.lines + c.lines.given = search rules in
    let more : c.lines.given < c.lines_with_space-space.result = c.lines-test.true in
    let left = c.decode.ensures.partial_row.given.left (omega (arith, space, here, more)) in
    let all = c.lines_left.ensures in
    let some : c.min-some.result ≡ min c.lines_left.result (c.lines_with_space-space.result - c.lines.given) = search rules in
    omega (arith, left, all, some, more)

pub lines-preserved : goal.lines-preserved
lines-preserved c =
    let s : ScanValue = c.args.scan.now.scan in
    let h = s.head in
    let keep = c.lines.invariant in
    let line : c.shape_of-line.result.line ≡ line_size h = search rules in
    let given = c.lines.given in
    let n = c.min-some.result in
    let from = c.bytes_to-from.result in
    let to = c.bytes_to-to.result in
    let pix = c.paint.new.pixels in
    let y = c.args.self.now.lines in
    let from_is : from ≡ given * line_size h = c.bytes_to-from.ensures.value ∙ ap (λ (k : ℕ). given * k) line in
    let to_is : to ≡ (given + n) * line_size h = c.bytes_to-to.ensures.value ∙ ap (λ (k : ℕ). (given + n) * k) line in
    let sum = add-mul given n (line_size h) in
    let size : to - from ≡ n * line_size h = omega (arith, from_is, to_is, sum) in
    let few : given + n ≤ c.lines_with_space-space.result = search (rules, arith) in
    let most : (given + n) * line_size h ≤ c.lines_with_space-space.result * line_size h = mul-le-mul_right {m = given + n} {n = c.lines_with_space-space.result} (line_size h) few in
    let fits : c.lines_with_space-space.result * line_size h ≤ length c.args.pixels.now = search (rules, arith) in
    let inside_to : to ≤ length c.lines.pixels = omega (arith, to_is, most, fits, keep.long) in
    let long : length pix ≡ to - from = search (rules, arith, c.paint.auto.pixels) in
    let end_is : to ≡ from + length pix = omega (arith, long, from_is, to_is, sum) in
    let inside : from ≤ length c.lines.pixels = omega (arith, inside_to, end_is) in
    let here : c.decode.new.self.lines ≡ y + given = search rules in
    record {
      partial_row = c.paint.ensures.partial_row;
      lines = omega (arith, c.paint.ensures.lines, here);
      few = few;
      long = search (rules, arith, keep.long, long, inside);
      front = λ t becomes b first.
          let f = samples_of b in
          let before = next_lines_of t.head f y given in
          let lines : pix ≡ next_lines_of t.head f (y + given) n = c.paint.ensures.painted t becomes b first ∙ ap (λ (k : ℕ). next_lines_of t.head f k n) here in
          ap (λ (k : ℕ). take k (put_mid from (to - from) c.lines.pixels pix)) (sym to_is)
          ∙ take-put_mid from (to - from) c.lines.pixels pix to end_is inside
          ∙ ap (λ (k : ℕ). take k c.lines.pixels ++ pix) from_is
          ∙ ap (λ z. z ++ pix) (keep.front t becomes b first) ∙ ap (λ z. before ++ z) lines ∙ sym (next_lines_more t.head f y given n);
    }
