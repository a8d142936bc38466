use Rattle.std.proofs.Common.{rules, refl, true, false, w16}
use Rattle.jr_idct.specs.Lanes.{word_lanes}
use Rattle.jr_idct.proofs.Vectors.{picked}
use Rattle.jr_idct.proofs.lanes.by_words.Goals as goal

pub returns-then-upper : goal.returns-then-upper
returns-then-upper c = rw c.if-upper.true (search (rules, picked w16 16 16 c.args.a c.args.b _ _ c.well_formed.0 c.well_formed.1.0 (word_lanes true) refl))

pub returns : goal.returns
returns c = rw c.if-upper.false (search (rules, picked w16 16 16 c.args.a c.args.b _ _ c.well_formed.0 c.well_formed.1.0 (word_lanes false) refl))
