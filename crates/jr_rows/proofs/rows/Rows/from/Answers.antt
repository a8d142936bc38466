use Rattle.std.proofs.Common.{rules, arith, ap, ◌∙◌, ◌≡◌, ◌*◌, ◌<◌, ◌≤◌, min, length}
use Rattle.jr_head.specs.Geometry.{mcus_of}
use Rattle.jr_scan.specs.ScanValue.{intervals_of}
use Rattle.jr_scan.specs.Cursors.{interval_start}
use Rattle.jr_rows.proofs.RowCursors.{start_to, starts}
use Rattle.jr_rows.proofs.WholeRows.{row_there, row_at}
use Rattle.jr_rows.proofs.rows.Rows.from.Goals as goal

pub overflow_mul-row : goal.overflow_mul-row
overflow_mul-row c =
    let h = c.args.part.now.scan.head in
    let some : 0 < mcus_of h = search (rules, arith) in
    let there = row_there h c.args.row c.args.intervals some c.requires.row c.requires.whole in
    search (rules, arith, there)

pub returns-clause-rows : goal.returns-clause-rows
returns-clause-rows c =
    let t = c.args.part.now.scan in
    let h = t.head in
    let some : 0 < mcus_of h = search (rules, arith) in
    let few : c.args.part.now.limit ≤ length t.intervals = search (rules, arith) in
    let count : length t.intervals ≡ intervals_of h = search (rules, arith) in
    let there = row_there h c.args.row c.args.intervals some c.requires.row c.requires.whole in
    let number : c.min-number.result ≡ min (c.args.row * c.args.intervals) c.args.part.now.limit = search rules in
    record {
      lies = starts t c.min-number.result c.at_start.result (omega (arith, number, there, count)) c.at_start.ensures;
      at = start_to h (min (c.args.row * c.args.intervals) c.args.part.now.limit) c.at_start.result (c.at_start.ensures ∙ ap interval_start number)
          ∙ row_at h c.args.row c.args.intervals some c.requires.row c.requires.whole c.args.part.now.limit (omega (arith, few, count));
    }
