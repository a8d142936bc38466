use Rattle.std.proofs.Common.{◌≡◌}
use Rattle.std.specs.Option.{IfSome}
use Rattle.jr_wall.proofs.decoding.Decoding.work_on_job.Given as goal

abbrev pub invariant-loop : goal.invariant-loop
invariant-loop g l = IfSome l.sight (λ s. s.cells ≡ l.cells)
