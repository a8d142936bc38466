use Rattle.std.proofs.Common.{inr, sym, arith}
use Rattle.jri_memory.proofs.places.skip_there.Goals as goal

pub returns-clause-skipped : goal.returns-clause-skipped
returns-clause-skipped c =
    let h = c.args.head.now in
    let there = c.has_row_at.ensures.there c.if-not-has_row_at.false in
    let stated = c.in-Ok.ensures in
    let report = c.of-report.ensures in
    inr (record {
      h = h;
      there = there;
      moves = record {
        head = c.requires;
        from = there.lies;
        to = stated.lies;
        row = sym report.rows;
        few = omega (arith, report.rows, stated.few);
        whole = λ all. let rows = stated.all all in omega (arith, report.rows, rows);
        next = λ lt. stated.most (omega (arith, lt, report.rows));
        none = λ zero. stated.none (omega (arith, report.rows, zero));
        place = stated.place;
        lines = report.lines;
        first = report.first;
        refusal = report.refusal;
        detail = report.detail;
      };
    })
