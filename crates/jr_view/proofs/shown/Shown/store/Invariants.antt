use Rattle.std.proofs.Common.{◌≡◌, ℕ, ◌+◌, ◌<◌, slice_index_or}
use Rattle.jr_piece.specs.Units.{grey_unit}
use Rattle.jr_view.specs.Views.{units_shown}
use Rattle.jr_view.proofs.shown.Shown.store.Given as goal

abbrev pub invariant-loop-k : goal.invariant-loop-k
invariant-loop-k l = (j : ℕ) → j < l.k → slice_index_or l.out j grey_unit ≡ slice_index_or (units_shown l.self) (l.from + j) grey_unit
