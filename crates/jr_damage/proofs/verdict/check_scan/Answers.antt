use Rattle.std.proofs.Common.{rules, OnSome, subst}
use Rattle.jr_scan.specs.IntervalValue.{IntervalValue}
use Rattle.jr_scan.specs.Mcus.{HasNoDecoding}
use Rattle.jr_damage.proofs.verdict.check_scan.Goals as goal

pub with_front-verdict-requires-clause-damaged : goal.with_front-verdict-requires-clause-damaged
with_front-verdict-requires-clause-damaged c = subst (λ (i : IntervalValue). OnSome c.damaged_front-front.result (HasNoDecoding i)) c.interval_ref.ensures c.damaged_front-front.ensures.damaged

pub returns : goal.returns
returns c = search rules
