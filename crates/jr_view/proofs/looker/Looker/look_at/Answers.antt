use Rattle.jr_view.proofs.Telling.{reports_then}
use Rattle.jr_view.proofs.looker.Looker.look_at.Goals as goal

pub returns-clause-reports : goal.returns-clause-reports
returns-clause-reports g c =
    reports_then g.S.Screen.becomes c.args.decoding.now.scan c.args.self.now c.look_for_strips.new.self c.look_for_piece.new.self c.args.screen.now c.look_for_strips.new.screen c.look_for_piece.new.screen
    c.look_for_strips.ensures c.look_for_piece.ensures.reports
