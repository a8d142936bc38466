use Rattle.std.proofs.Common.{rules, ◌≡◌, ℕ, ◌+◌, ◌*◌, ◌<◌, ◌∷◌, [], slice_index, ap}
use Rattle.std.specs.Simd.Lanes.{put_chunk}
use Rattle.jr_paint.specs.Shades.{red_over_of, green_over_of, blue_over_of, IsRaised}
use Rattle.jr_paint.proofs.Blocks.{raised_pixels, raised_same, green_same}
use Rattle.jr_paint.proofs.Turns.{by_turns}
use Rattle.jr_paint.proofs.pixels.convert_block.Goals as goal

pub returns : goal.returns
returns c =
    let i = c.args.i in
    let b = slice_index c.args.cb.now in
    let r = slice_index c.args.cr.now in
    let b0 : (k : ℕ) → k < 16 → slice_index c.load_by_turns-b.result.0 k ≡ b (i + 2 * k) = search (rules, c.load_by_turns-b.ensures.even) in
    let b1 : (k : ℕ) → k < 16 → slice_index c.load_by_turns-b.result.1 k ≡ b (i + (2 * k + 1)) = search (rules, c.load_by_turns-b.ensures.odd) in
    let r0 : (k : ℕ) → k < 16 → slice_index c.load_by_turns-r.result.0 k ≡ r (i + 2 * k) = search (rules, c.load_by_turns-r.ensures.even) in
    let r1 : (k : ℕ) → k < 16 → slice_index c.load_by_turns-r.result.1 k ≡ r (i + (2 * k + 1)) = search (rules, c.load_by_turns-r.ensures.odd) in
    rw c.paint.ensures (search (
      rules,
      ap (put_chunk (3 * i) c.args.out.now)
          (raised_pixels i (slice_index c.args.luma.now) b r
          (c.raised_red.result ∷ c.raised_red-2.result ∷ []) (c.raised_green.result ∷ c.raised_green-2.result ∷ []) (c.raised_blue.result ∷ c.raised_blue-2.result ∷ [])
          (by_turns (λ k v. IsRaised v (red_over_of (r (i + k)))) _ _ (λ k l. raised_same red_over_of (r0 k l) (c.raised_red.ensures k l)) (λ k l. raised_same red_over_of (r1 k l) (c.raised_red-2.ensures k l)))
          (by_turns (λ k v. IsRaised v (green_over_of (b (i + k)) (r (i + k)))) _ _ (λ k l. green_same (b0 k l) (r0 k l) (c.raised_green.ensures k l)) (λ k l. green_same (b1 k l) (r1 k l) (c.raised_green-2.ensures k l)))
          (by_turns (λ k v. IsRaised v (blue_over_of (b (i + k)))) _ _ (λ k l. raised_same blue_over_of (b0 k l) (c.raised_blue.ensures k l)) (λ k l. raised_same blue_over_of (b1 k l) (c.raised_blue-2.ensures k l)))),
    ))
