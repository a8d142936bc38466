use Rattle.std.proofs.Common.{rules, ◌≡◌, ◌+◌, ◌<◌, ◌≤◌, false, length, get_or, ap, arith}
use Rattle.std.proofs.lemmas.List.{get_or_read}
use Rattle.jr_view.specs.Lookers.{has_reported}
use Rattle.jr_view.proofs.Telling.{keeps_strip}
use Rattle.jr_view.proofs.looker.Looker.note_strip.Goals as goal

pub returns-clause-new : goal.returns-clause-new
returns-clause-new c _ scan reported lt k =
    let l = c.args.self.now in
    let s = c.args.strip.now in
    let number : c.number-number.result ≡ s.interval.number = c.number-number.ensures in
    let first : c.first-first.result ≡ s.first = c.first-first.ensures in
    let next : c.in-Some.next ≡ s.first + 1 = search (rules, arith, first) in
    let space : s.interval.number < length l.strips.items = search (rules, arith, number) in
    let unreported : has_reported l s.interval.number ≡ false = search (rules, number) in
    let read = get_or_read l.strips.items c.number-number.result c.index.result.now (search (rules, arith)) (search rules) 0 in
    let here : get_or l.strips.items s.interval.number 0 ≤ s.first = search (rules, arith, read, ap (λ n. get_or l.strips.items n 0) number, first) in
    keeps_strip scan l _ s reported space unreported here (search rules) (search (rules, number, next)) (c.assert_invariant.ensures, lt) k
