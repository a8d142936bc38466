use Rattle.std.proofs.Common.{rules, subst, ◌≡◌, ◌∙◌, ℤ, List, pos, lit<, w16, get_or}
use mir.Val.{SFits}
use Rattle.std.proofs.lemmas.Int.{to_z-of_z}
use Rattle.jr_base.specs.Blocks.{at}
use Rattle.jr_base.specs.Zigzag.{zigzag_place}
use Rattle.jr_base.proofs.Orders.{at_place}
use Rattle.jr_base.proofs.coefficients.Coefficients.first.Goals as goal

pub returns : goal.returns
unfolding zigzag_place
returns c =
    let fits : SFits w16 (get_or c.self.inside.natural 0 (pos 0)) = search rules in
    to_z-of_z w16 (get_or c.self.inside.natural 0 (pos 0)) fits ∙ subst (λ (z : List ℤ). at c.self.inside.natural 0 ≡ at z 0) c.self.view_is (at_place c.self.inside.natural 0 (lit< tt))
