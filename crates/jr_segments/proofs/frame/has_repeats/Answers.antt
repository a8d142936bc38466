use Rattle.std.proofs.Common.{sym, ◌∙◌, length, arith, ◌≡◌}
use Rattle.jr_segments.proofs.FrameLaws.{repeats_slice, repeats_end}
use Rattle.jr_segments.proofs.frame.has_repeats.Goals as goal

pub returns-then-has_id : goal.returns-then-has_id
returns-then-has_id c =
    sym (rw c.if-has_id.true at (repeats_slice c.args.components.now c.loop-i.i _ c.has_id.result c.loop-i-test.true c.has_id.ensures)) ∙ c.loop-i.invariant

pub loop-i-preserved : goal.loop-i-preserved
loop-i-preserved c =
    sym (rw c.if-has_id.false at (repeats_slice c.args.components.now c.loop-i.i _ c.has_id.result c.loop-i-test.true c.has_id.ensures)) ∙ c.loop-i.invariant

pub returns : goal.returns
returns c =
    let e : c.loop-i.i ≡ length c.args.components.now = omega arith in
    sym (repeats_end c.args.components.now) ∙ (rw e at c.loop-i.invariant)
