use Rattle.std.proofs.Common.{ap, ◌∙◌, w16}
use Rattle.jr_idct.specs.Transform.{byte_of}
use Rattle.jr_idct.proofs.Vectors.{unchanged}
use Rattle.jr_idct.proofs.pair.sample_rows.Goals as goal

pub values-t-requires : goal.values-t-requires
values-t-requires c =
    let u0 = unchanged w16 16 c.args.x0 _ c.well_formed.0 in
    let u1 = unchanged w16 16 c.args.x1 _ c.well_formed.1.0 in
    let u2 = unchanged w16 16 c.args.x2 _ c.well_formed.1.1.0 in
    let u3 = unchanged w16 16 c.args.x3 _ c.well_formed.1.1.1.0 in
    let u4 = unchanged w16 16 c.args.x4 _ c.well_formed.1.1.1.1.0 in
    let u5 = unchanged w16 16 c.args.x5 _ c.well_formed.1.1.1.1.1.0 in
    let u6 = unchanged w16 16 c.args.x6 _ c.well_formed.1.1.1.1.1.1.0 in
    let u7 = unchanged w16 16 c.args.x7 _ c.well_formed.1.1.1.1.1.1.1.0 in
    rw (u0, u1, u2, u3, u4, u5, u6, u7) c.requires

pub returns : goal.returns
returns c =
    let u0 = unchanged w16 16 c.args.x0 _ c.well_formed.0 in
    let u1 = unchanged w16 16 c.args.x1 _ c.well_formed.1.0 in
    let u2 = unchanged w16 16 c.args.x2 _ c.well_formed.1.1.0 in
    let u3 = unchanged w16 16 c.args.x3 _ c.well_formed.1.1.1.0 in
    let u4 = unchanged w16 16 c.args.x4 _ c.well_formed.1.1.1.1.0 in
    let u5 = unchanged w16 16 c.args.x5 _ c.well_formed.1.1.1.1.1.0 in
    let u6 = unchanged w16 16 c.args.x6 _ c.well_formed.1.1.1.1.1.1.0 in
    let u7 = unchanged w16 16 c.args.x7 _ c.well_formed.1.1.1.1.1.1.1.0 in
    record {
      first = λ v is_x r k h g. c.byte_rows.ensures.first r k h g ∙ ap byte_of (c.values-t.ensures.first v (rw (u0, u1, u2, u3, u4, u5, u6, u7) is_x) r k h g);
      second = λ v is_x r k h g. c.byte_rows.ensures.second r k h g ∙ ap byte_of (c.values-t.ensures.second v (rw (u0, u1, u2, u3, u4, u5, u6, u7) is_x) r k h g);
    }
