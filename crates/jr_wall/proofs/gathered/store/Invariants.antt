use Rattle.std.proofs.Common.{◌≡◌, length}
use Rattle.std.specs.List.{All}
use Rattle.jr_scan.specs.IntervalValue.{IntervalValue}
use Rattle.jr_wall.specs.Sharing.{IsEmptyOrOf}
use Rattle.jr_wall.proofs.gathered.store.Given as goal

abbrev pub invariant-loop : goal.invariant-loop
invariant-loop l = (length l.places.items ≡ l.counter) × ((i : IntervalValue) → All (IsEmptyOrOf i) l.initial.places.items → All (IsEmptyOrOf i) l.places.items)
