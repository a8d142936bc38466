use Rattle.std.proofs.Common.{◌≡◌, ◌<◌, ◌≤◌, ◌*◌, ℕ, length, slice_index}
use Rattle.jr_base.specs.declared.quantisers.TheConstants.{MAX_PRODUCT}
use Rattle.jr_base.proofs.quantisers.limits_of.Given as goal

abbrev pub invariant-loop-n : goal.invariant-loop-n
invariant-loop-n l = (length l.limits ≡ 64) × ((j : ℕ) → j < l.n → slice_index l.limits j * slice_index l.factors j ≤ MAX_PRODUCT)
