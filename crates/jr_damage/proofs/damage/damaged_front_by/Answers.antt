use Rattle.std.proofs.Common.{OnSome, ◌∙◌, ap, subst}
use Rattle.jr_scan.specs.IntervalValue.{IntervalValue}
use Rattle.jr_scan.specs.Mcus.{HasNoDecoding}
use Rattle.jr_scan.specs.ScanValue.{ScanValue, interval_of}
use Rattle.jr_damage.proofs.damage.damaged_front_by.Goals as goal

pub returns-clause-damaged : goal.returns-clause-damaged
returns-clause-damaged g c =
    let own = c.interval_ref.ensures ∙ ap (λ (s : ScanValue). interval_of s c.args.i) c.scan.ensures in
    subst (λ (i : IntervalValue). OnSome c.front_at.result (HasNoDecoding i)) own c.front_at.ensures.damaged
