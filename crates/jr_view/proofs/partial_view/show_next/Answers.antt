use Rattle.std.proofs.Common.{◌≡◌, ℕ, ◌+◌, ◌*◌, ◌<◌, ◌≤◌, length, take, sym, subst, arith}
use Rattle.jr_paint.specs.Lines.{line_size}
use Rattle.jr_arrival.specs.PartialFile.{given_of}
use Rattle.jr_view.proofs.PartialViews.{Stores, all_settled, row_fits, row_keeps, seen_row, seen_same}
use Rattle.jr_view.proofs.partial_view.show_next.Goals as goal

pub returns-then-count-eq0-clause-seen : goal.returns-then-count-eq0-clause-seen
returns-then-count-eq0-clause-seen c bytes seen =
    let lines : given_of c.next_lines.new.self.partial_image ≡ given_of c.args.partial_file.now.partial_image = omega (arith, c.in-Ok.ensures.lines, c.if-count-eq0.true) in
    seen_same c.args.partial_file.now c.next_lines.new.self c.args.pixels.now (length c.args.row.now) (length c.next_lines.new.pixels) bytes lines (c.next_lines.ensures.partial_file bytes seen.partial_file) c.next_lines.auto.pixels seen

pub returns-then-count-eq0-clause-settled : goal.returns-then-count-eq0-clause-settled
returns-then-count-eq0-clause-settled c none bytes seen =
    all_settled c.args.partial_file.now c.next_lines.new.self c.args.pixels.now c.next_lines.new.pixels (length c.args.row.now) c.in-Ok.count bytes c.requires.some c.next_lines.auto.pixels c.in-Ok.ensures.lines (c.next_lines.ensures.partial_file bytes seen.partial_file)
    (c.in-Ok.ensures.given bytes seen.partial_file) seen c.if-count-eq0.true

pub write_lines-requires-clause-inside : goal.write_lines-requires-clause-inside
write_lines-requires-clause-inside c =
    let bytes = c.requires.seen.0 in
    let seen = c.requires.seen.1 in
    let come = c.next_lines.ensures.partial_file bytes seen.partial_file in
    let g = c.in-Some.head.now in
    let more : 0 < c.in-Ok.count = omega (arith, c.if-count-eq0.false) in
    let fits = row_fits c.args.partial_file.now c.next_lines.new.self c.args.pixels.now c.next_lines.new.pixels (length c.args.row.now) c.in-Ok.count bytes c.requires.some c.next_lines.auto.pixels c.in-Ok.ensures.lines come
    (c.in-Ok.ensures.given bytes seen.partial_file) seen g more (c.in-Some.ensures.head bytes come) in
    let first : c.lines-first.result ≡ given_of c.args.partial_file.now.partial_image = c.lines-first.ensures in
    let line : c.shape_of.result.line ≡ line_size g = c.shape_of.ensures.line in
    subst (λ (k : ℕ). (k + c.in-Ok.count) * c.shape_of.result.line ≤ length c.args.pixels.now) (sym first) (subst (λ (k : ℕ). (given_of c.args.partial_file.now.partial_image + c.in-Ok.count) * k ≤ length c.args.pixels.now) (sym line) fits.1)

pub write_lines-requires-clause-there : goal.write_lines-requires-clause-there
write_lines-requires-clause-there c =
    let bytes = c.requires.seen.0 in
    let seen = c.requires.seen.1 in
    let come = c.next_lines.ensures.partial_file bytes seen.partial_file in
    let g = c.in-Some.head.now in
    let more : 0 < c.in-Ok.count = omega (arith, c.if-count-eq0.false) in
    let fits = row_fits c.args.partial_file.now c.next_lines.new.self c.args.pixels.now c.next_lines.new.pixels (length c.args.row.now) c.in-Ok.count bytes c.requires.some c.next_lines.auto.pixels c.in-Ok.ensures.lines come
    (c.in-Ok.ensures.given bytes seen.partial_file) seen g more (c.in-Some.ensures.head bytes come) in
    let line : c.shape_of.result.line ≡ line_size g = c.shape_of.ensures.line in
    subst (λ (k : ℕ). c.in-Ok.count * k ≤ length c.next_lines.new.pixels) (sym line) fits.0

pub returns-clause-seen : goal.returns-clause-seen
returns-clause-seen c bytes seen =
    let come = c.next_lines.ensures.partial_file bytes seen.partial_file in
    let g = c.in-Some.head.now in
    let more : 0 < c.in-Ok.count = omega (arith, c.if-count-eq0.false) in
    let first : c.lines-first.result ≡ given_of c.args.partial_file.now.partial_image = c.lines-first.ensures in
    let line : c.shape_of.result.line ≡ line_size g = c.shape_of.ensures.line in
    let stores : Stores c.args.pixels.now c.write_lines.new.pixels c.next_lines.new.pixels c.lines-first.result c.in-Ok.count c.shape_of.result.line =
    record { long = c.write_lines.auto.pixels; before = c.write_lines.ensures.before; store = c.write_lines.ensures.store; after = c.write_lines.ensures.after } in
    let theirs : Stores c.args.pixels.now c.write_lines.new.pixels c.next_lines.new.pixels (given_of c.args.partial_file.now.partial_image) c.in-Ok.count (line_size g) =
    subst (λ (k : ℕ). Stores c.args.pixels.now c.write_lines.new.pixels c.next_lines.new.pixels (given_of c.args.partial_file.now.partial_image) c.in-Ok.count k) line
    (subst (λ (k : ℕ). Stores c.args.pixels.now c.write_lines.new.pixels c.next_lines.new.pixels k c.in-Ok.count c.shape_of.result.line) first stores) in
    seen_row c.args.partial_file.now c.next_lines.new.self c.args.pixels.now c.next_lines.new.pixels (length c.args.row.now) c.in-Ok.count bytes c.requires.some c.next_lines.auto.pixels c.in-Ok.ensures.lines come
    (c.in-Ok.ensures.given bytes seen.partial_file) seen c.write_lines.new.pixels g more (c.in-Some.ensures.head bytes come) theirs

pub returns-clause-kept : goal.returns-clause-kept
returns-clause-kept c bytes h seen is =
    let come = c.next_lines.ensures.partial_file bytes seen.partial_file in
    let g = c.in-Some.head.now in
    let first : c.lines-first.result ≡ given_of c.args.partial_file.now.partial_image = c.lines-first.ensures in
    let line : c.shape_of.result.line ≡ line_size g = c.shape_of.ensures.line in
    let before : take (given_of c.args.partial_file.now.partial_image * line_size g) c.write_lines.new.pixels ≡ take (given_of c.args.partial_file.now.partial_image * line_size g) c.args.pixels.now =
    subst (λ (k : ℕ). take (given_of c.args.partial_file.now.partial_image * k) c.write_lines.new.pixels ≡ take (given_of c.args.partial_file.now.partial_image * k) c.args.pixels.now) line
    (subst (λ (k : ℕ). take (k * c.shape_of.result.line) c.write_lines.new.pixels ≡ take (k * c.shape_of.result.line) c.args.pixels.now) first c.write_lines.ensures.before) in
    row_keeps c.args.pixels.now c.write_lines.new.pixels (given_of c.args.partial_file.now.partial_image) bytes g h seen.are_bytes (c.in-Some.ensures.head bytes come is.small) is before
