use Rattle.jr_view.specs.Reported.{PieceOf}
use Rattle.jr_view.proofs.Telling.{reports_one}
use Rattle.jr_view.proofs.looker.Looker.report_piece.Goals as goal

pub returns-then-note_piece-clause-reports : goal.returns-then-note_piece-clause-reports
returns-then-note_piece-clause-reports g c scan has =
    let noted = c.note_piece.ensures.new c.if-note_piece.true scan in
    reports_one g.S.Screen.becomes scan c.args.self.now c.note_piece.new.self c.args.screen.now c.show_piece.new.self (PieceOf c.args.piece.now) c.show_piece.ensures (λ before k. noted before has k)
    c.note_piece.ensures.count c.note_piece.ensures.others
