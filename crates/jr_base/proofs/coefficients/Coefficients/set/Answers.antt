use Rattle.std.proofs.Common.{rules, ◌≡◌, ◌∙◌, ap, ℕ, ℤ, List, set, w16}
use Rattle.std.proofs.lemmas.Int.{to_z-of_z}
use Rattle.jr_base.specs.Blocks.{in_zigzag_order}
use Rattle.jr_base.specs.Zigzag.{natural_index}
use Rattle.jr_base.proofs.Orders.{set_zigzag}
use Rattle.jr_base.proofs.coefficients.Coefficients.set.Goals as goal

pub returns : goal.returns
returns c =
    let xs = c.self.inside.natural in
    let v = c.args.value in
    let stored = ap (λ (q : ℤ). in_zigzag_order (set xs (natural_index c.args.index) q)) (to_z-of_z w16 v c.ranges.value) in
    let there = set_zigzag xs c.args.index v c.self.invariant c.requires ∙ ap (λ (z : List ℤ). set z c.args.index v) c.self.view_is in
    search (rules, stored ∙ there, c.natural_at.ensures.value)
