use Rattle.std.proofs.Common.{◌≡◌, ◌+◌, ◌-◌, refl, subst, inr, arith}
use Rattle.jr_base.specs.declared.marker.TheConstants.{RST0}
use Rattle.jr_cut.specs.Cut.{HasMarker}
use Rattle.jr_mend.proofs.following.end_after_last.Goals as goal

pub returns-then-code-le-RST7 : goal.returns-then-code-le-RST7
returns-then-code-le-RST7 c = λ n k tail e m.
    let code : c.args.code ≡ RST0 + (c.args.code - RST0) = omega arith in
    ((c.args.code - RST0, omega arith, subst (HasMarker tail) code m, e, refl), inr (inr e))
