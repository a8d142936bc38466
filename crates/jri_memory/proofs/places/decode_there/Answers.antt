use Rattle.std.proofs.Common.{ℕ, ◌*◌, take, drop, inr, sym, ap, ◌∙◌, arith, rules}
use Rattle.jr_paint.specs.Lines.{line_size, next_lines_of}
use Rattle.jr_arrival.specs.Places.{lines_above}
use Rattle.jri_memory.proofs.places.decode_there.Goals as goal

pub returns-clause-given : goal.returns-clause-given
returns-clause-given c =
    let h = c.args.head.now in
    let there = c.has_row_at.ensures.there c.if-not-has_row_at.false in
    let stated = c.in-Ok.ensures in
    let report = c.of-report.ensures in
    inr (record {
      h = h;
      there = there;
      space = search (rules, arith, c.rows_with_space.ensures.value, c.if-rows_with_space-eq0.false);
      moves = record {
        head = c.requires;
        from = there.lies;
        to = stated.lies;
        row = sym report.rows;
        few = omega (arith, report.rows, stated.few);
        whole = λ all. let rows = stated.all all in omega (arith, report.rows, rows);
        next = λ lt. stated.most (omega (arith, lt, report.rows));
        none = λ zero. stated.none (omega (arith, report.rows, zero));
        place = stated.place;
        lines = report.lines;
        first = report.first;
        refusal = report.refusal;
        detail = report.detail;
      };
      are = λ whole t marks f may is shows. ap (λ (k : ℕ). take (k * line_size h) c.decode_rows.new.pixels) report.lines ∙ stated.lines whole t marks f may is shows ∙ ap (next_lines_of h f (lines_above h c.args.place.now.row)) (sym report.lines);
      long = stated.long;
      after = ap (λ (k : ℕ). drop (k * line_size h) c.decode_rows.new.pixels) report.lines ∙ stated.kept ∙ ap (λ (k : ℕ). drop (k * line_size h) c.args.pixels.now) (sym report.lines);
    })
