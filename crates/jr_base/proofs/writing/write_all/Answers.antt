use Rattle.std.proofs.Common.{rules}
use Rattle.jr_base.proofs.Appending.{sent_more, some_sent, kept}
use Rattle.jr_base.proofs.writing.write_all.Goals as goal

pub parts-preserved : goal.parts-preserved
parts-preserved g c =
    let e = c.in-Ok.ensures in
    record {
      within = search rules;
      unfailed = search rules;
      sent = search (rules, sent_more _ _ _ _ _ _ c.parts.invariant.sent e.bytes);
    }

pub returns-in-Ok-eq0-clause-err : goal.returns-in-Ok-eq0-clause-err
returns-in-Ok-eq0-clause-err g c = some_sent _ _ _ _ (sent_more _ _ _ _ _ _ c.parts.invariant.sent c.in-Ok-eq0.ensures.bytes)

pub returns-in-Err-clause-err : goal.returns-in-Err-clause-err
returns-in-Err-clause-err g c = kept _ _ _ _ _ c.parts.invariant.sent c.in-Err.ensures.bytes
