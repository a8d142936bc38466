use Rattle.std.proofs.Common.{◌≡◌, arith, w16}
use Rattle.std.proofs.lemmas.Int.{to_z-of_z}
use Rattle.std.specs.Prelude.{unsigned_abs}
use Rattle.jr_idct.proofs.small.excess_of.Goals as goal

pub returns-clause-first : goal.returns-clause-first
returns-clause-first c e =
    let size : c.unsigned_abs.result ≡ unsigned_abs c.args.a = rw (to_z-of_z w16 c.args.a c.ranges.a) at c.unsigned_abs.ensures.value in
    omega (arith, e, size, c.max-size.ensures, c.saturating_sub.ensures)

pub returns-clause-second : goal.returns-clause-second
returns-clause-second c e =
    let size : c.unsigned_abs-2.result ≡ unsigned_abs c.args.b = rw (to_z-of_z w16 c.args.b c.ranges.b) at c.unsigned_abs-2.ensures.value in
    omega (arith, e, size, c.max-size.ensures, c.saturating_sub.ensures)
