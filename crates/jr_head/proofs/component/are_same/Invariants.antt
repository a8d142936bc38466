use Rattle.std.proofs.Common.{◌≡◌, ◌<◌, ℕ, get_or}
use Rattle.jr_head.specs.declared.component.Component.{Component}
use Rattle.jr_head.proofs.component.are_same.Given as goal

abbrev pub invariant-loop-i : goal.invariant-loop-i
invariant-loop-i l = (k : ℕ) (d : Component) → k < l.i → get_or l.a k d ≡ get_or l.b k d
