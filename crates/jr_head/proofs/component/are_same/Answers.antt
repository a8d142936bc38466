use Rattle.std.proofs.Common.{arith, refl}
use Rattle.std.proofs.lemmas.List.{same_lists}
use Rattle.jr_head.proofs.component.are_same.Goals as goal

pub returns : goal.returns
returns c = (λ _. same_lists _ _ (omega arith) (λ k d h. c.loop-i.invariant k d (omega (arith, h))), λ _. refl)
