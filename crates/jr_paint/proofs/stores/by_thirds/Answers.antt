use Rattle.std.proofs.Common.{rules, ◌≡◌, ◌%◌, [], ◌∷◌, ◌++◌, map, refl, slice_index, slice_index_or}
use Rattle.std.specs.List.{range_with_len}
use Rattle.std.specs.Simd.Lanes.{pick_l}
use Rattle.jr_paint.proofs.Shuffled.{by_lanes, seconds, thirds}
use Rattle.jr_paint.proofs.stores.by_thirds.Goals as goal

pub returns : goal.returns
returns c =
    let b = c.args.b in
    let d = c.args.c in
    search (
      rules,
      by_lanes 32 (λ a. pick_l 0 (pick_l 0 (a ++ b) seconds ++ d) thirds ≡ map (λ q. slice_index (slice_index_or (a ∷ b ∷ d ∷ []) (q % 16 % 3) []) q) (range_with_len 0 32)) c.args.a c.fits-a.0 refl,
    )
