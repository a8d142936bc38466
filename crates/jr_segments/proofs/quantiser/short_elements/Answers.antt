use Rattle.std.proofs.Common.{arith, ◌≡◌, rules}
use Rattle.jr_segments.proofs.QuantiserLaws.{short_all}
use Rattle.jr_segments.proofs.quantiser.short_elements.Goals as goal

pub returns : goal.returns
returns c =
    let e : c.loop-i.i ≡ 64 = omega arith in
    short_all c.loop-i.elements c.args.bytes.now c.loop-i.invariant.len c.requires (rw e at c.loop-i.invariant.each)

pub loop-i-preserved : goal.loop-i-preserved
loop-i-preserved c = search rules
