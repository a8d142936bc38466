use Rattle.std.proofs.Common.{◌≡◌, ◌<◌, ℕ, length}
use Rattle.jr_base.specs.Blocks.{at}
use Rattle.jr_base.specs.Zigzag.{natural_index}
use Rattle.jr_base.proofs.coefficients.Coefficients.to_zigzag.Given as goal

abbrev pub invariant-loop-k : goal.invariant-loop-k
invariant-loop-k l = (length l.zigzag ≡ 64) × ((j : ℕ) → j < l.k → at l.zigzag j ≡ at l.self-inside.natural (natural_index j))
