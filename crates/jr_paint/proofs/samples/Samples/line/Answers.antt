use Rattle.std.proofs.Common.{arith}
use Rattle.std.proofs.lemmas.List.{length-take-le}
use Rattle.jr_paint.proofs.Factors.{samples_across-le}
use Rattle.jr_paint.proofs.samples.Samples.line.Goals as goal

pub overflow_add-x : goal.overflow_add-x
overflow_add-x g c =
    let valid = rw c.head-valid.ensures.value at c.head-valid.ensures.valid in
    let narrow = samples_across-le (g.Self.Samples.head_of c.args.self.now) c.args.c valid c.requires.component in
    let long = length-take-le c.args.count c.args.space.now c.requires.space in
    omega (arith, c.requires.columns, narrow, valid.narrow, c.loop-entry.invariant.place, long)
