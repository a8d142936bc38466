use Rattle.jr_view.proofs.Telling.{reports_asked}
use Rattle.jr_view.proofs.watching.look_and_ask.Goals as goal

pub returns : goal.returns
returns g c = reports_asked g.S.Screen.becomes c.args.decoding.now.scan c.args.looker.now c.look.new.self c.args.screen.now c.look.new.screen c.is_done.new.self c.look.ensures c.is_done.ensures
