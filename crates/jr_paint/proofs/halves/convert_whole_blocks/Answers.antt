use Rattle.std.proofs.Common.{rules, ℕ, ◌*◌, ◌/◌, slice_index, arith, refl}
use Rattle.jr_segments.specs.declared.kind.Kind.TheVariants.{Ycc}
use Rattle.jr_paint.specs.Colours.{colour_of}
use Rattle.jr_paint.proofs.Blocks.{halved_more, last_halved}
use Rattle.jr_paint.proofs.halves.convert_whole_blocks.Goals as goal

pub loop-n-preserved : goal.loop-n-preserved
loop-n-preserved c =
    let a = slice_index c.args.luma.now in
    let z = slice_index c.args.next_luma.now in
    let b = slice_index c.args.cb.now in
    let d = slice_index c.args.cr.now in
    let l = c.loop-n in
    record {
      line = rw c.convert_block.ensures.line (search (rules, halved_more (λ k. colour_of Ycc (a k) (b (k / 2)) (d (k / 2))) (λ k. refl) l.n l.first (omega arith) l.invariant.line));
      next = rw c.convert_block.ensures.next (search (rules, halved_more (λ k. colour_of Ycc (z k) (b (k / 2)) (d (k / 2))) (λ k. refl) l.n l.second (omega arith) l.invariant.next));
    }

pub returns-in-Some-clause-line : goal.returns-in-Some-clause-line
returns-in-Some-clause-line c =
    let f = λ (k : ℕ). colour_of Ycc (slice_index c.args.luma.now k) (slice_index c.args.cb.now (k / 2)) (slice_index c.args.cr.now (k / 2)) in
    rw c.convert_block-in-Some.ensures.line (search (rules, last_halved f (λ k. refl) c.in-Some.start (32 * c.loop-n.n) c.loop-n.first (search (rules, arith)) (search (rules, arith)) c.loop-n.invariant.line))

pub returns-in-Some-clause-next : goal.returns-in-Some-clause-next
returns-in-Some-clause-next c =
    let f = λ (k : ℕ). colour_of Ycc (slice_index c.args.next_luma.now k) (slice_index c.args.cb.now (k / 2)) (slice_index c.args.cr.now (k / 2)) in
    rw c.convert_block-in-Some.ensures.next (search (rules, last_halved f (λ k. refl) c.in-Some.start (32 * c.loop-n.n) c.loop-n.second (search (rules, arith)) (search (rules, arith)) c.loop-n.invariant.next))
