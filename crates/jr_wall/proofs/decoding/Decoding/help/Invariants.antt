use Rattle.std.proofs.Common.{◌≡◌}
use Rattle.std.specs.Option.{IfSome}
use Rattle.jr_wall.proofs.decoding.Decoding.help.Given as goal

abbrev pub invariant-loop-k : goal.invariant-loop-k
invariant-loop-k g l = IfSome l.sight (λ s. s.cells ≡ l.self.cells)
