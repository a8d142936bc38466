use Rattle.std.proofs.Common.{◌≡◌, ◌+◌, ◌-◌, refl, subst, arith}
use Rattle.jr_base.specs.declared.marker.TheConstants.{RST0}
use Rattle.jr_cut.specs.Cut.{HasMarker}
use Rattle.jr_cut.proofs.stop.end_at.Goals as goal

pub returns-then-k-intervals-clause-ended : goal.returns-then-k-intervals-clause-ended
returns-then-k-intervals-clause-ended c = λ tail m.
    let e : c.args.code ≡ RST0 + (c.args.code - RST0) = omega arith in
    (c.args.code - RST0, omega arith, subst (HasMarker tail) e m, c.if-k-intervals.true, refl)

pub returns-clause-number : goal.returns-clause-number
returns-clause-number c = omega arith
