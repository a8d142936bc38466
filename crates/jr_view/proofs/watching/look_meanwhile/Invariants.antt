use Rattle.jr_view.specs.Lookers.{Reports}
use Rattle.jr_view.proofs.watching.look_meanwhile.Given as goal

abbrev pub invariant-loop : goal.invariant-loop
invariant-loop g l = Reports g.S.Screen.becomes l.decoding.scan l.fn.looker l.fn.screen l.looker l.screen
