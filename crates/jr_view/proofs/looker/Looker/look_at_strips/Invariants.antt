use Rattle.std.proofs.Common.{◌≡◌, ◌<◌, length}
use Rattle.jr_scan.specs.ScanValue.{ScanValue}
use Rattle.jr_view.specs.Lookers.{Reports}
use Rattle.jr_view.proofs.looker.Looker.look_at_strips.Given as goal

abbrev pub invariant-loop-place : goal.invariant-loop-place
invariant-loop-place g l = (l.sight.cells ≡ l.cells) × ((scan : ScanValue) → l.cells.number < length scan.intervals → Reports g.S.Screen.becomes scan l.fn.self l.fn.screen l.self l.screen)
