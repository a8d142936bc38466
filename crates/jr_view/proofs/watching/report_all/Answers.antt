use Rattle.jr_view.proofs.Telling.{err_not_ok, reported_all, reports_then}
use Rattle.jr_view.proofs.watching.report_all.Goals as goal

pub returns-in_err-report_last : goal.returns-in_err-report_last
returns-in_err-report_last g c =
    let all =
    reports_then g.S.Screen.becomes c.args.decoding.now.scan c.in_ok-looker.looker c.run_and_look-looker.result c.report_last.new.looker c.args.screen.now c.run_and_look-looker.new.screen c.report_last.new.screen
    c.run_and_look-looker.ensures c.report_last.ensures.reports in
    reported_all g.S.Screen.becomes c.args.decoding.now.scan _ c.in_ok-looker.looker c.report_last.new.looker c.args.screen.now c.report_last.new.screen (c.in_ok-looker.ensures.nothing c.args.decoding.now.scan) all
    (λ ok. absurd (err_not_ok c.from_residual-in_err-report_last.result c.from_residual-in_err-report_last.ensures.0 ok))

pub returns : goal.returns
returns g c =
    let all =
    reports_then g.S.Screen.becomes c.args.decoding.now.scan c.in_ok-looker.looker c.run_and_look-looker.result c.report_last.new.looker c.args.screen.now c.run_and_look-looker.new.screen c.report_last.new.screen
    c.run_and_look-looker.ensures c.report_last.ensures.reports in
    reported_all g.S.Screen.becomes c.args.decoding.now.scan _ c.in_ok-looker.looker c.report_last.new.looker c.args.screen.now c.report_last.new.screen (c.in_ok-looker.ensures.nothing c.args.decoding.now.scan) all
    (λ ok. c.in_ok-report_last.ensures.all)
