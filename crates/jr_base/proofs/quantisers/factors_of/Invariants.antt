use Rattle.std.proofs.Common.{◌≡◌, ◌<◌, ℕ, length, slice_index}
use Rattle.jr_base.specs.Zigzag.{zigzag_place}
use Rattle.jr_base.proofs.quantisers.factors_of.Given as goal

abbrev pub invariant-loop-n : goal.invariant-loop-n
invariant-loop-n l = (length l.factors ≡ 64) × ((j : ℕ) → j < l.n → slice_index l.factors j ≡ slice_index l.elements (zigzag_place j))
