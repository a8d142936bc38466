use Rattle.jr_view.specs.Views.{AddsMcus, units_shown}
use Rattle.jr_view.proofs.view.View.show.Given as goal

abbrev pub invariant-loop-j : goal.invariant-loop-j
invariant-loop-j l = AddsMcus l.fn.self l.fn.first l.j (units_shown l.shown) l.self
