use Rattle.std.proofs.Common.{arith, ◌≡◌, ◌<◌, length}
use Rattle.jr_rows.specs.Rows.{coded_before}
use Rattle.jr_rows.proofs.RowCursors.{start_to, starts}
use Rattle.jr_rows.proofs.rows.Rows.of.Goals as goal

pub returns-clause-rows : goal.returns-clause-rows
returns-clause-rows c =
    let t = c.args.part.now.scan in
    let some : 0 < length t.intervals = search (arith, c.scan.ensures, c.intervals-some.ensures.value, c.intervals-some.ensures.some) in
    let none : 0 ≡ coded_before t.head c.args.part.now.limit 0 = omega arith in
    record {
      lies = starts t 0 c.at_start.result some c.at_start.ensures;
      at = omega (arith, start_to t.head 0 c.at_start.result c.at_start.ensures, none);
    }
