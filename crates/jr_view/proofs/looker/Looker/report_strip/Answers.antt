use Rattle.std.proofs.Common.{rules}
use Rattle.jr_view.specs.Reported.{StripOf}
use Rattle.jr_view.proofs.Telling.{reports_one}
use Rattle.jr_view.proofs.looker.Looker.report_strip.Goals as goal

pub returns-then-note_strip : goal.returns-then-note_strip
returns-then-note_strip g c scan lt =
    let noted = c.note_strip.ensures.new c.if-note_strip.true scan in
    reports_one g.S.Screen.becomes scan c.args.self.now c.note_strip.new.self c.args.screen.now c.show_strip.new.self (StripOf c.args.strip.now) c.show_strip.ensures (λ before k. noted before lt k)
    (search (rules, c.note_strip.ensures.pieces)) (λ i t. search (rules, t, c.note_strip.ensures.pieces))
