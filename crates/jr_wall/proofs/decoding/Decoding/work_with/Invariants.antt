use Rattle.std.proofs.Common.{◌≡◌, ◌-◌, ◌++◌, ℕ, List, length}
use Rattle.std.specs.Option.{IfSome}
use Rattle.jr_wall.proofs.decoding.Decoding.work_with.Given as goal

abbrev pub decreases-loop-number : goal.decreases-loop-number
decreases-loop-number g l = l.self.desk.limit - length l.seat.drawn

abbrev pub invariant-loop-number : goal.invariant-loop-number
invariant-loop-number g l = record {
  desk : l.seat.desk ≡ l.initial.seat.desk;
  place : l.seat.place ≡ l.initial.seat.place;
  drawn : (rest : List ℕ) × (l.seat.drawn ≡ l.initial.seat.drawn ++ rest);
  sight : IfSome l.sight (λ s. s.cells ≡ l.self.cells);
}
