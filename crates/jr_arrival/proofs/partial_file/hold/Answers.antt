use Rattle.std.proofs.Common.{Option, subst}
use Rattle.jr_arrival.specs.PartialFile.{PartialImageValue, HasBegun, HoldsBytes}
use Rattle.jr_arrival.proofs.Arrivals.{begun_stays}
use Rattle.jr_arrival.proofs.partial_file.hold.Goals as goal

pub returns-in_ok-push-in-Some-clause-held : goal.returns-in_ok-push-in-Some-clause-held
returns-in_ok-push-in-Some-clause-held c so_far small held =
    let before : HasBegun c.in-Some.scan so_far = subst (λ (o : Option PartialImageValue). HoldsBytes c.args.head.now o so_far) c.in-Some.is held in
    begun_stays c.in-Some.scan c.push.new.self so_far c.args.more.now small c.in_ok-push-in-Some.ensures.head c.in_ok-push-in-Some.ensures.count (c.in_ok-push-in-Some.ensures.pushed so_far) before
