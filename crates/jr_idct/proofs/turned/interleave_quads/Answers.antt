use Rattle.std.proofs.Common.{refl, true, false, w16}
use Rattle.jr_idct.specs.Lanes.{quads}
use Rattle.jr_idct.proofs.Vectors.{picked}
use Rattle.jr_idct.proofs.turned.interleave_quads.Goals as goal

pub returns-then-upper : goal.returns-then-upper
returns-then-upper c = rw c.if-upper.true (picked w16 16 16 c.args.a c.args.b _ _ c.well_formed.0 c.well_formed.1.0 (quads true) refl)

pub returns : goal.returns
returns c = rw c.if-upper.false (picked w16 16 16 c.args.a c.args.b _ _ c.well_formed.0 c.well_formed.1.0 (quads false) refl)
