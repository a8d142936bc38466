use Rattle.std.proofs.Common.{◌≡◌, ◌<◌, ◌≤◌, length, take, length-take-le, arith, rules}
use Rattle.jr_cut.proofs.Spellings.{some_found}
use Rattle.jr_cut.proofs.into_buffer.unstuff_some.Goals as goal

pub returns-clause-some : goal.returns-clause-some
returns-clause-some c n front few within is fits =
    let raw = c.args.raw.now in
    let u = c.unstuff_into-read in
    let found = take u.result.found u.new.buffer in
    let long : length found ≡ u.result.found = length-take-le u.result.found u.new.buffer (omega (arith, u.ensures.fits, u.ensures.long)) in
    let less : u.result.found < length c.args.space.now = search (rules, arith, c.if-found-space.false, u.ensures.fits, u.ensures.long) in
    let end : n ≤ c.min-end.result = search (rules, arith) in
    omega (arith, long, some_found raw found front c.min-end.result u.result.read n end is u.ensures.spells (u.ensures.stop less))
