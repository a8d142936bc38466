use Rattle.std.proofs.Common.{rules, ◌*◌, ◌/◌, slice_index, arith, refl, ℕ}
use Rattle.jr_segments.specs.declared.kind.Kind.TheVariants.{Ycc}
use Rattle.jr_paint.specs.Colours.{colour_of}
use Rattle.jr_paint.proofs.Blocks.{halved_more, last_halved}
use Rattle.jr_paint.proofs.halves.convert_whole_blocks_of_one.Goals as goal

pub loop-n-preserved : goal.loop-n-preserved
loop-n-preserved c =
    let f = λ (k : ℕ). colour_of Ycc (slice_index c.args.luma.now k) (slice_index c.args.cb.now (k / 2)) (slice_index c.args.cr.now (k / 2)) in
    let l = c.loop-n in
    rw c.convert_block_of_one.ensures (search (rules, halved_more f (λ k. refl) l.n l.out (omega arith) l.invariant))

pub returns-in-Some-clause-front : goal.returns-in-Some-clause-front
returns-in-Some-clause-front c =
    let f = λ (k : ℕ). colour_of Ycc (slice_index c.args.luma.now k) (slice_index c.args.cb.now (k / 2)) (slice_index c.args.cr.now (k / 2)) in
    rw c.convert_block_of_one-in-Some.ensures (search (rules, last_halved f (λ k. refl) c.in-Some.start (32 * c.loop-n.n) c.loop-n.out (search (rules, arith)) (search (rules, arith)) c.loop-n.invariant))
