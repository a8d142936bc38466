use Rattle.std.proofs.Common.{arith}
use Rattle.std.proofs.lemmas.Int.{ints}
use Rattle.jr_code.specs.Bits.{upper_bits}
use Rattle.jr_code.specs.Code.{HasNoPlaces}
use Rattle.jr_code.proofs.CodeLemmas.{one_word}
use Rattle.jr_code.proofs.PairLemmas.{none_no_places, other_no_places, places_value}
use Rattle.jr_code.proofs.ReadLemmas.{if_none}
use Rattle.jr_code.proofs.book.CodeBook.rare_places.Goals as goal

pub returns-in_err-both-clause-none : goal.returns-in_err-both-clause-none
returns-in_err-both-clause-none c =
    let bs = upper_bits c.args.count c.args.held in
    let t = c.self.inside.words in
    rw (← c.self.view_is) (if_none (HasNoPlaces t bs) c.from_residual.result (none_no_places t bs c.in_err-both.ensures.none))

pub returns-in_err-places-clause-none : goal.returns-in_err-places-clause-none
returns-in_err-places-clause-none c =
    let bs = upper_bits c.args.count c.args.held in
    let x = c.in_ok-both.both in
    let t = c.self.inside.words in
    rw (← c.self.view_is) (if_none (HasNoPlaces t bs) c.from_residual-in_err-places.result
    (other_no_places t (one_word t) x.symbol x.value bs _ c.in_ok-both.ensures.found.1 c.in_err-places.ensures.none))

pub of-requires-clause-least : goal.of-requires-clause-least
of-requires-clause-least c =
    let within = places_value _ _ _ _ _ _ c.in_ok-both.ensures.found.1 c.in_ok-places.ensures.some in
    omega (arith, ints, within.1)

pub of-requires-clause-greatest : goal.of-requires-clause-greatest
of-requires-clause-greatest c = (places_value _ _ _ _ _ _ c.in_ok-both.ensures.found.1 c.in_ok-places.ensures.some).0
