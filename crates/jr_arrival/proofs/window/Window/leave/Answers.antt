use Rattle.std.proofs.Common.{◌-◌, take, drop, refl, arith}
use Rattle.std.proofs.lemmas.Bool.{true≢false}
use Rattle.jr_arrival.proofs.Windows.{stopped}
use Rattle.jr_arrival.proofs.window.Window.leave.Goals as goal

pub returns-clause-window : goal.returns-clause-window
returns-clause-window c =
    let i = c.args.self.now in
    record { space = c.requires.window.space; from = omega arith; found = omega arith; at = c.requires.at; spells = stopped i.file.bytes.now (take (0 - 0) (drop 0 i.space.items)) c.args.at refl c.requires.at c.requires.stop; full = λ long ends. absurd (true≢false ends) }
