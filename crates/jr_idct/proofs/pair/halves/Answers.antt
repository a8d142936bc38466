use Rattle.std.proofs.Common.{true, false}
use Rattle.jr_idct.proofs.Gathers.{half_taken}
use Rattle.jr_idct.proofs.pair.halves.Goals as goal

pub returns-then-second : goal.returns-then-second
returns-then-second c = rw c.if-second.true (half_taken true c.args.a c.args.b c.fits-a.0 c.fits-b.0)

pub returns : goal.returns
returns c = rw c.if-second.false (half_taken false c.args.a c.args.b c.fits-a.0 c.fits-b.0)
