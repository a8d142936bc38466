use Rattle.std.proofs.Common.{subst}
use Rattle.jr_rows.specs.RowsValue.{RowsValue}
use Rattle.jr_rows.specs.Rows.{CountsRows}
use Rattle.jr_rows.specs.Stream.{SendsPicture}
use Rattle.std.specs.Result.{IfOk}
use Rattle.jr_crew.proofs.sending.send.Goals as goal

pub returns : goal.returns
returns g c =
    let to = c.write_rows-sent.result in
    let counts = subst (λ (r : RowsValue). IfOk to (CountsRows r.scan r.limit)) c.of-caller.ensures c.write_rows-sent.ensures.counts in
    let sent = subst (λ (r : RowsValue). SendsPicture g.W.Write.contents c.args.out.now c.write_rows-sent.new.out to r.scan r.limit) c.of-caller.ensures c.write_rows-sent.ensures.sent in
    record { counts = counts; failed = c.write_rows-sent.ensures.failed; sent = sent }
