use Rattle.std.proofs.Common.{◌≡◌}
use Rattle.jr_view.specs.Lookers.{Reports}
use Rattle.jr_view.proofs.looker.Looker.look.Given as goal

abbrev pub invariant-loop-i : goal.invariant-loop-i
invariant-loop-i g l = (l.sight.cells ≡ l.decoding.cells) × Reports g.S.Screen.becomes l.decoding.scan l.fn.self l.fn.screen l.self l.screen
