use Rattle.std.proofs.Common.{rules, inr}
use Rattle.std.proofs.lemmas.Result.{IfOk-weaker}
use Rattle.jri_archive.proofs.in_step.in_step.Goals as goal

pub returns-in-Err-clause-bytes : goal.returns-in-Err-clause-bytes
returns-in-Err-clause-bytes c =
    IfOk-weaker c.left.result _ _ (λ r h. inr (inr (record { refusal = c.in-Err.refusal; is_refused = search (rules, c.in-Err.ensures.refusal h.0); same = h.1 }))) c.left.ensures.bytes
