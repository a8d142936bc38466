use Rattle.std.proofs.Common.{◌≡◌, ◌++◌, replicate}
use Rattle.jr_head.proofs.sampling.push_units.Given as goal

abbrev pub invariant-loop : goal.invariant-loop
invariant-loop l = l.order.items ≡ l.initial.order.items ++ replicate l.counter l.component
