use Rattle.std.proofs.Common.{◌≡◌, replicate}
use Rattle.jr_piece.specs.Units.{grey_unit}
use Rattle.jr_view.proofs.view.grey_units.Given as goal

abbrev pub invariant-loop : goal.invariant-loop
invariant-loop l = l.units.items ≡ replicate l.counter grey_unit
