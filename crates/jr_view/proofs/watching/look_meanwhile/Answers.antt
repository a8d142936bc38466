use Rattle.jr_view.proofs.Telling.{reports_then}
use Rattle.jr_view.proofs.watching.look_meanwhile.Goals as goal

pub returns-then-is_done : goal.returns-then-is_done
returns-then-is_done g c =
    reports_then g.S.Screen.becomes c.args.decoding.now.scan c.args.looker.now c.loop.looker c.look_and_ask-is_done.new.looker c.args.screen.now c.loop.screen c.look_and_ask-is_done.new.screen c.loop.invariant c.look_and_ask-is_done.ensures

pub loop-preserved : goal.loop-preserved
loop-preserved g c =
    reports_then g.S.Screen.becomes c.args.decoding.now.scan c.args.looker.now c.loop.looker c.look_and_ask-is_done.new.looker c.args.screen.now c.loop.screen c.look_and_ask-is_done.new.screen c.loop.invariant c.look_and_ask-is_done.ensures
