use Rattle.std.proofs.Common.{rules, inl, inr, ◌≡◌, ◌<◌, true, length, sym, subst, arith}
use Rattle.std.proofs.lemmas.Bool.{cases_lt}
use Rattle.jr_view.specs.Lookers.{has_reported}
use Rattle.jr_view.proofs.Telling.{reports_then}
use Rattle.jr_view.proofs.looker.Looker.report_rest.Goals as goal

pub returns-in_err-report_decoded-clause-reports : goal.returns-in_err-report_decoded-clause-reports
returns-in_err-report_decoded-clause-reports g c =
    reports_then g.S.Screen.becomes c.args.scan.now c.args.self.now c.loop-i.self c.report_decoded.new.self c.args.screen.now c.loop-i.screen c.report_decoded.new.screen c.loop-i.invariant.0 c.report_decoded.ensures.reports

pub loop-i-preserved : goal.loop-i-preserved
loop-i-preserved g c = (
  reports_then g.S.Screen.becomes c.args.scan.now c.args.self.now c.loop-i.self c.report_decoded.new.self c.args.screen.now c.loop-i.screen c.report_decoded.new.screen c.loop-i.invariant.0 c.report_decoded.ensures.reports,
  λ j lt. elim (cases_lt j c.loop-i.i) [
    | inl before ↦ c.report_decoded.ensures.reports.remembers j (c.loop-i.invariant.1 j before)
    | inr after ↦
        let here : j ≡ c.loop-i.i = omega arith in
        let count = c.loop-i.invariant.0.count in
        let few : c.loop-i.i < length c.loop-i.self.pieces.items = search (rules, arith, count) in
        let reported : has_reported c.report_decoded.new.self c.loop-i.i ≡ true = search (rules, few) in
        subst (λ k. has_reported c.report_decoded.new.self k ≡ true) (sym here) reported
  ],
)
