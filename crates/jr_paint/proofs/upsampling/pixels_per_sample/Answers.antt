use Rattle.std.proofs.Common.{arith}
use Rattle.std.proofs.Math.Nat.{div-add-mod}
use Rattle.jr_head.specs.Geometry.{horizontal_of, horizontal_max}
use Rattle.jr_paint.proofs.Factors.{factor_some, factor_few, subsampled_at}
use Rattle.jr_paint.proofs.upsampling.pixels_per_sample.Goals as goal

pub returns-clause-some : goal.returns-clause-some
returns-clause-some c =
    let h = c.args.head.now in
    rw (c.horizontal_max.ensures.value, c.horizontal.ensures.value)
    (factor_some (horizontal_of h c.args.c) (horizontal_max h) (rw (← c.horizontal.ensures.value) c.horizontal.ensures.some) c.requires.valid.components.across (subsampled_at h c.args.c c.requires.valid c.requires.component).across_divides)

pub returns-clause-few : goal.returns-clause-few
returns-clause-few c =
    let h = c.args.head.now in
    rw (c.horizontal_max.ensures.value, c.horizontal.ensures.value)
    (factor_few (horizontal_of h c.args.c) (horizontal_max h) (rw (← c.horizontal.ensures.value) c.horizontal.ensures.some) c.requires.valid.components.narrow)

pub returns-clause-whole : goal.returns-clause-whole
returns-clause-whole c =
    let h = c.args.head.now in
    rw (c.horizontal_max.ensures.value, c.horizontal.ensures.value)
    (omega (arith, div-add-mod (horizontal_max h) (horizontal_of h c.args.c), (subsampled_at h c.args.c c.requires.valid c.requires.component).across_divides))
