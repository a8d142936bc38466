use Rattle.std.proofs.Common.{◌≡◌, ◌∙◌, ℕ, ℤ, pos, List, length, sym, arith, ap}
use Rattle.std.proofs.lemmas.List.{ext_get_or}
use Rattle.jr_base.specs.Blocks.{at, in_zigzag_order}
use Rattle.jr_base.proofs.Orders.{at_zigzag, count_in_zigzag}
use Rattle.jr_base.proofs.coefficients.Coefficients.to_zigzag.Goals as goal

pub returns : goal.returns
returns c =
    let xs = c.self.inside.natural in
    let v : in_zigzag_order xs ≡ c.args.self.now = c.self.view_is in
    let long = c.loop-k.invariant.0 in
    ext_get_or (pos 0) c.loop-k.zigzag (in_zigzag_order xs) (long ∙ sym (count_in_zigzag xs))
    (λ k h. c.loop-k.invariant.1 k (omega (arith, long, h)) ∙ sym (at_zigzag xs k (omega (arith, long, h)))) ∙ v
