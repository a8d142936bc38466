use Rattle.std.proofs.Common.{ap, ◌∙◌, w16}
use Rattle.jr_idct.specs.Transform.{byte_of}
use Rattle.jr_idct.proofs.Vectors.{unchanged}
use Rattle.jr_idct.proofs.low.low_rows.Goals as goal

pub low_values-t-requires : goal.low_values-t-requires
low_values-t-requires c =
    let u0 = unchanged w16 16 c.args.x0 _ c.well_formed.0 in
    let u1 = unchanged w16 16 c.args.x1 _ c.well_formed.1.0 in
    let u2 = unchanged w16 16 c.args.x2 _ c.well_formed.1.1.0 in
    let u3 = unchanged w16 16 c.args.x3 _ c.well_formed.1.1.1.0 in
    rw (u0, u1, u2, u3) c.requires

pub returns-clause-first : goal.returns-clause-first
returns-clause-first c v is_x r k h g =
    let u0 = unchanged w16 16 c.args.x0 _ c.well_formed.0 in
    let u1 = unchanged w16 16 c.args.x1 _ c.well_formed.1.0 in
    let u2 = unchanged w16 16 c.args.x2 _ c.well_formed.1.1.0 in
    let u3 = unchanged w16 16 c.args.x3 _ c.well_formed.1.1.1.0 in
    c.byte_rows.ensures.first r k h g ∙ ap byte_of (c.low_values-t.ensures.first v (rw (u0, u1, u2, u3) is_x) r k h g)

pub returns-clause-second : goal.returns-clause-second
returns-clause-second c v is_x r k h g =
    let u0 = unchanged w16 16 c.args.x0 _ c.well_formed.0 in
    let u1 = unchanged w16 16 c.args.x1 _ c.well_formed.1.0 in
    let u2 = unchanged w16 16 c.args.x2 _ c.well_formed.1.1.0 in
    let u3 = unchanged w16 16 c.args.x3 _ c.well_formed.1.1.1.0 in
    c.byte_rows.ensures.second r k h g ∙ ap byte_of (c.low_values-t.ensures.second v (rw (u0, u1, u2, u3) is_x) r k h g)
