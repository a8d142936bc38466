use Rattle.std.proofs.Common.{rules}
use Rattle.jr_view.proofs.Telling.{reports_then}
use Rattle.jr_view.proofs.looker.Looker.look.Goals as goal

pub loop-i-preserved : goal.loop-i-preserved
loop-i-preserved g c = (
  search rules,
  reports_then g.S.Screen.becomes c.args.decoding.now.scan c.args.self.now c.loop-i.self c.look_at.new.self c.args.screen.now c.loop-i.screen c.look_at.new.screen c.loop-i.invariant.1 c.look_at.ensures.reports,
)
