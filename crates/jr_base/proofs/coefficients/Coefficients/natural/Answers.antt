use Rattle.std.proofs.Common.{rules, subst, ◌≡◌, ◌<◌, ℕ, ℤ, List, sym}
use Rattle.jr_base.specs.Blocks.{at}
use Rattle.jr_base.specs.Zigzag.{zigzag_place}
use Rattle.jr_base.proofs.Orders.{at_place}
use Rattle.jr_base.proofs.coefficients.Coefficients.natural.Goals as goal

pub returns-clause-values : goal.returns-clause-values
returns-clause-values c = λ n h. subst (λ (z : List ℤ). at c.self.inside.natural n ≡ at z (zigzag_place n)) c.self.view_is (at_place c.self.inside.natural n h)
