use Rattle.std.proofs.Common.{rules}
use Rattle.jr_view.specs.Lookers.{Reports}
use Rattle.jr_view.proofs.Telling.{reports_asked, reports_then}
use Rattle.jr_view.proofs.watching.report_last.Goals as goal

pub returns-in_err-report_rest-clause-reports : goal.returns-in_err-report_rest-clause-reports
returns-in_err-report_rest-clause-reports g c =
    let last : Reports g.S.Screen.becomes c.args.decoding.now.scan c.look.new.self c.look.new.screen c.report_rest.new.self c.report_rest.new.screen = search (rules, c.report_rest.ensures.reports) in
    reports_then g.S.Screen.becomes c.args.decoding.now.scan c.args.looker.now c.look.new.self c.report_rest.new.self c.args.screen.now c.look.new.screen c.report_rest.new.screen c.look.ensures last

pub returns-clause-reports : goal.returns-clause-reports
returns-clause-reports g c =
    let last : Reports g.S.Screen.becomes c.args.decoding.now.scan c.look.new.self c.look.new.screen c.report_rest.new.self c.report_rest.new.screen = search (rules, c.report_rest.ensures.reports) in
    let rest = reports_then g.S.Screen.becomes c.args.decoding.now.scan c.args.looker.now c.look.new.self c.report_rest.new.self c.args.screen.now c.look.new.screen c.report_rest.new.screen c.look.ensures last in
    reports_asked g.S.Screen.becomes c.args.decoding.now.scan c.args.looker.now c.report_rest.new.self c.args.screen.now c.report_rest.new.screen c.is_done.new.self rest c.is_done.ensures
