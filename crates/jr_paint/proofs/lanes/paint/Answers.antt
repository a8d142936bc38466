use Rattle.std.proofs.Common.{rules, ◌≡◌, ◌+◌, ◌*◌, ◌∷◌, [], slice_index, ap, ◌∙◌}
use Rattle.std.specs.Simd.Lanes.{put_chunk}
use Rattle.jr_paint.specs.Lines.{colour_over, packed, turn_of}
use Rattle.jr_paint.proofs.Blocks.{same_pixels, three_same}
use Rattle.jr_paint.proofs.Turns.{by_turns, in_order}
use Rattle.jr_paint.proofs.lanes.paint.Goals as goal

pub returns : goal.returns
returns c =
    let i = c.args.i in
    let luma = slice_index c.args.luma.now in
    let even = c.load_by_turns-y.result.0 in
    let odd = c.load_by_turns-y.result.1 in
    let r = c.args.red in
    let g = c.args.green in
    let b = c.args.blue in
    let y = by_turns (λ k v. v ≡ luma (i + k)) even odd c.load_by_turns-y.ensures.even c.load_by_turns-y.ensures.odd in
    c.store.ensures
    ∙ ap (put_chunk (3 * i) c.args.out.now)
    (same_pixels (λ k. slice_index c.lit-red.result (packed k) ∷ slice_index c.lit-green.result (packed k) ∷ slice_index c.lit-blue.result (packed k) ∷ [])
    (λ k. colour_over (luma (i + k)) (turn_of (r.0 ∷ r.1 ∷ []) k) (turn_of (g.0 ∷ g.1 ∷ []) k) (turn_of (b.0 ∷ b.1 ∷ []) k)) 32
    (λ k l. three_same
    (in_order _ even odd r.0 r.1 (search (rules, c.lit-red.ensures)) (λ k. luma (i + k)) y k l)
    (in_order _ even odd g.0 g.1 (search (rules, c.lit-green.ensures)) (λ k. luma (i + k)) y k l)
    (in_order _ even odd b.0 b.1 (search (rules, c.lit-blue.ensures)) (λ k. luma (i + k)) y k l)))
