use Rattle.std.proofs.Common.{[], ◌∙◌, refl, arith}
use Rattle.std.proofs.lemmas.List.{same_lists, get_or_default}
use Rattle.jr_scan.proofs.scan.Scan.has_same_data.Goals as goal

pub returns : goal.returns
returns c = (
  λ _. same_lists _ _ c.requires (λ k d h.
      get_or_default _ k d [] h ∙ c.loop-i.invariant k (omega (arith, h, c.intervals-i-end.ensures.value)) ∙ get_or_default _ k [] d (omega (arith, h, c.requires))),
  λ _. refl,
)
