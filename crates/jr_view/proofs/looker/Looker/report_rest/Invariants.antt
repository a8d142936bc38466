use Rattle.std.proofs.Common.{◌≡◌, ℕ, ◌<◌, true}
use Rattle.jr_view.specs.Lookers.{Reports, has_reported}
use Rattle.jr_view.proofs.looker.Looker.report_rest.Given as goal

abbrev pub invariant-loop-i : goal.invariant-loop-i
invariant-loop-i g l = Reports g.S.Screen.becomes l.scan l.fn.self l.fn.screen l.self l.screen × ((j : ℕ) → j < l.i → has_reported l.self j ≡ true)
