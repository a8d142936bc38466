use Rattle.std.proofs.Common.{rules, arith}
use Rattle.jr_view.proofs.Telling.{reports_then}
use Rattle.jr_view.proofs.looker.Looker.look_at_strips.Goals as goal

pub loop-place-preserved : goal.loop-place-preserved
loop-place-preserved g c = (
  search rules,
  λ scan lt. reports_then g.S.Screen.becomes scan c.args.self.now c.loop-place.self c.report_strip.new.self c.args.screen.now c.loop-place.screen c.report_strip.new.screen (c.loop-place.invariant.1 scan lt) (c.report_strip.ensures scan (search (rules, arith, lt))),
)
