use Rattle.std.proofs.Common.{◌≡◌, true, sym, ◌∙◌}
use Rattle.jr_mend.specs.Markers.{is_restart}
use Rattle.jr_mend.proofs.MarkersLaw.{outlook_after}
use Rattle.jr_mend.proofs.outlook.Outlook.after.Goals as goal

pub returns-then-is_restart-clause-is : goal.returns-then-is_restart-clause-is
returns-then-is_restart-clause-is c = λ n m ms code goes is.
    let restart : is_restart m.code ≡ true = code ∙ sym c.is_restart.ensures ∙ c.if-is_restart.true in
    outlook_after n m ms goes restart c.saturating_sub.result c.args.self c.saturating_sub.ensures is
