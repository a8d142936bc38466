use Rattle.std.proofs.Common.{rules, ◌≡◌, ℕ, ◌<◌, ◌+ℤ◌, ℤ, pos, w16}
use Rattle.std.proofs.Math.IntN.{◌*ℤ◌}
use Rattle.jr_idct.specs.Lanes.{half_lane}
use Rattle.jr_idct.specs.Matrix.{at, weight}
use Rattle.jr_idct.proofs.Halves.{lane_within, even_entries}
use Rattle.jr_idct.proofs.Vectors.{unchanged}
use Rattle.jr_idct.proofs.pass.even_lanes.Goals as goal

pub returns : goal.returns
returns c =
    let x0 : ℕ → ℤ = λ k. at c.args.x0 (half_lane c.args.upper k) in
    let x2 : ℕ → ℤ = λ k. at c.args.x2 (half_lane c.args.upper k) in
    let x4 : ℕ → ℤ = λ k. at c.args.x4 (half_lane c.args.upper k) in
    let x6 : ℕ → ℤ = λ k. at c.args.x6 (half_lane c.args.upper k) in
    let e0 = unchanged w16 16 c.args.x0 _ c.well_formed.0 in
    let e2 = unchanged w16 16 c.args.x2 _ c.well_formed.1.0 in
    let e4 = unchanged w16 16 c.args.x4 _ c.well_formed.1.1.0 in
    let e6 = unchanged w16 16 c.args.x6 _ c.well_formed.1.1.1.0 in
    let is_s0 : (k : ℕ) → k < 8 → at c.scaled-s0.result k ≡ pos 8192 *ℤ x0 k = λ k h. search (rules, (rw e0 at (c.scaled-s0.ensures k h))) in
    let is_s4 : (k : ℕ) → k < 8 → at c.scaled-s4.result k ≡ pos 8192 *ℤ x4 k = λ k h. search (rules, (rw e4 at (c.scaled-s4.ensures k h))) in
    let is_outer : (k : ℕ) → k < 8 → at c.pair_sum-outer.result k ≡ weight 0 2 *ℤ x2 k +ℤ weight 0 6 *ℤ x6 k = λ k h. search (rules, (rw (e2, e6) at (c.pair_sum-outer.ensures k h))) in
    let is_inner : (k : ℕ) → k < 8 → at c.pair_sum-inner.result k ≡ weight 1 2 *ℤ x2 k +ℤ weight 1 6 *ℤ x6 k = λ k h. search (rules, (rw (e2, e6) at (c.pair_sum-inner.ensures k h))) in
    let w0 = lane_within c.args.x0 _ c.well_formed.0 c.args.upper in
    let w2 = lane_within c.args.x2 _ c.well_formed.1.0 c.args.upper in
    let w4 = lane_within c.args.x4 _ c.well_formed.1.1.0 c.args.upper in
    let w6 = lane_within c.args.x6 _ c.well_formed.1.1.1.0 c.args.upper in
    let e = even_entries x0 x2 x4 x6 w0 w2 w4 w6 c.args.constant c.requires _ _ _ _ _ _ _ _ c.scaled-s0.type_inv c.scaled-s4.type_inv c.pair_sum-outer.type_inv c.pair_sum-inner.type_inv is_s0 is_s4 is_outer is_inner in
    record { entry_0 = e.0; entry_1 = e.1; entry_2 = e.2; entry_3 = e.3 }
