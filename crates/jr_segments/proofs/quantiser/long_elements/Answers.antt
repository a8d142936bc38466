use Rattle.std.proofs.Common.{arith, ◌≡◌}
use Rattle.jr_segments.proofs.QuantiserLaws.{long_all}
use Rattle.jr_segments.proofs.quantiser.long_elements.Goals as goal

pub returns : goal.returns
returns c =
    let e : c.loop-i.i ≡ 64 = omega arith in
    long_all c.loop-i.elements c.args.bytes.now c.loop-i.invariant.len c.requires (rw e at c.loop-i.invariant.each)
