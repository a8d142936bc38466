use Rattle.std.proofs.Common.{rules, OnSome, subst, sym}
use Rattle.jr_scan.specs.Mcus.{HasNoDecoding}
use Rattle.jr_scan.specs.ScanValue.{ScanValue, interval_of}
use Rattle.jr_damage.proofs.verdict.check_by.Goals as goal

pub with_front-verdict-requires-clause-damaged : goal.with_front-verdict-requires-clause-damaged
with_front-verdict-requires-clause-damaged g c = subst (λ (s : ScanValue). OnSome c.damaged_front_by-front.result (HasNoDecoding (interval_of s c.loop-i.i))) (sym c.scan-in-loop-i.ensures) c.damaged_front_by-front.ensures.damaged

pub returns : goal.returns
returns g c = search rules
