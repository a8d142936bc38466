use Rattle.jr_view.proofs.Telling.{reports_nothing}
use Rattle.jr_view.proofs.looker.Looker.report_decoded.Goals as goal

pub returns-in_default-clause-reports : goal.returns-in_default-clause-reports
returns-in_default-clause-reports g c = reports_nothing g.S.Screen.becomes c.args.scan.now c.args.self.now c.args.screen.now
