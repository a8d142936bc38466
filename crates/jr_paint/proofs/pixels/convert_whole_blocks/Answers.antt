use Rattle.std.proofs.Common.{rules, ◌≡◌, ℕ, ◌+◌, ◌-◌, ◌*◌, length, slice_index, arith, refl}
use Rattle.jr_segments.specs.declared.kind.Kind.TheVariants.{Ycc}
use Rattle.jr_paint.specs.Colours.{colour_of}
use Rattle.jr_paint.proofs.Blocks.{pixels_more, last_pixels}
use Rattle.jr_paint.proofs.pixels.convert_whole_blocks.Goals as goal

pub loop-n-preserved : goal.loop-n-preserved
loop-n-preserved c =
    let f = λ (k : ℕ). colour_of Ycc (slice_index c.args.luma.now k) (slice_index c.args.cb.now k) (slice_index c.args.cr.now k) in
    let n = c.loop-n.n in
    let e : 32 * (n + 1) ≡ 32 * n + 32 = omega arith in
    rw (c.convert_block.ensures, e) (search (rules, pixels_more f (λ k. refl) (32 * n) 32 c.loop-n.out (omega arith) c.loop-n.invariant))

pub returns-then-count-gt0-clause-front : goal.returns-then-count-gt0-clause-front
returns-then-count-gt0-clause-front c =
    let f = λ (k : ℕ). colour_of Ycc (slice_index c.args.luma.now k) (slice_index c.args.cb.now k) (slice_index c.args.cr.now k) in
    let m = length c.args.luma.now - 32 in
    let e : m + 32 ≡ length c.args.luma.now = omega arith in
    rw c.convert_block-then-count-gt0.ensures (search (rules, rw e at (last_pixels f (λ k. refl) m (32 * c.loop-n.n) c.loop-n.out (omega arith) (omega arith) c.loop-n.invariant)))
