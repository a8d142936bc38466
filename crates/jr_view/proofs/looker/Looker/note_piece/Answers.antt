use Rattle.std.proofs.Common.{rules, refl, ◌≡◌, ◌<◌, false, length, arith}
use Rattle.std.proofs.lemmas.List.{get_or_read}
use Rattle.jr_view.specs.Lookers.{has_reported}
use Rattle.jr_view.proofs.Telling.{keeps_piece}
use Rattle.jr_view.proofs.looker.Looker.note_piece.Goals as goal

pub returns-clause-new : goal.returns-clause-new
returns-clause-new c _ scan reported has k =
    let l = c.args.self.now in
    let p = c.args.piece.now in
    let number : c.number-at.result ≡ p.interval.number = c.number-at.ensures in
    let space : p.interval.number < length l.pieces.items = search (rules, arith, number) in
    let read = get_or_read l.pieces.items c.number-at.result c.index.result.now (search (rules, arith)) (search rules) false in
    let unreported : has_reported l p.interval.number ≡ false = search (rules, number, read) in
    keeps_piece scan l _ p reported space unreported (search rules) (search (rules, number)) (record { number = refl; interval = has; outcome = c.assert_invariant.ensures }) k
