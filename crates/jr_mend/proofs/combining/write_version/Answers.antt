use Rattle.std.proofs.Common.{inl, inr, arith}
use Rattle.jr_mend.proofs.combining.write_version.Goals as goal

pub returns-clause-outside : goal.returns-clause-outside
returns-clause-outside c = λ p out. c.loop-at.invariant.2 p (elim out [
  | inl less ↦ inl less
  | inr past ↦ inr (omega (arith, past, c.loop-at-test.false, c.loop-at.auto.at-end, c.requires.order))
])
