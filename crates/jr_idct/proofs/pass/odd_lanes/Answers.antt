use Rattle.std.proofs.Common.{rules, ◌≡◌, ℕ, ◌<◌, ◌+ℤ◌, ℤ, lit<, w16}
use Rattle.std.proofs.Math.IntN.{◌*ℤ◌}
use Rattle.jr_idct.specs.Lanes.{half_lane}
use Rattle.jr_idct.specs.Matrix.{at, weight}
use Rattle.jr_idct.proofs.Halves.{lane_within, odd_entry}
use Rattle.jr_idct.proofs.Vectors.{unchanged}
use Rattle.jr_idct.proofs.pass.odd_lanes.Goals as goal

pub returns : goal.returns
returns c =
    let x1 : ℕ → ℤ = λ k. at c.args.x1 (half_lane c.args.upper k) in
    let x3 : ℕ → ℤ = λ k. at c.args.x3 (half_lane c.args.upper k) in
    let x5 : ℕ → ℤ = λ k. at c.args.x5 (half_lane c.args.upper k) in
    let x7 : ℕ → ℤ = λ k. at c.args.x7 (half_lane c.args.upper k) in
    let e1 = unchanged w16 16 c.args.x1 _ c.well_formed.0 in
    let e3 = unchanged w16 16 c.args.x3 _ c.well_formed.1.0 in
    let e5 = unchanged w16 16 c.args.x5 _ c.well_formed.1.1.0 in
    let e7 = unchanged w16 16 c.args.x7 _ c.well_formed.1.1.1.0 in
    let w1 = lane_within c.args.x1 _ c.well_formed.0 c.args.upper in
    let w3 = lane_within c.args.x3 _ c.well_formed.1.0 c.args.upper in
    let w5 = lane_within c.args.x5 _ c.well_formed.1.1.0 c.args.upper in
    let w7 = lane_within c.args.x7 _ c.well_formed.1.1.1.0 c.args.upper in
    let is_a0 : (k : ℕ) → k < 8 → at c.pair_sum-a0.result k ≡ weight 0 1 *ℤ x1 k +ℤ weight 0 3 *ℤ x3 k = λ k h. search (rules, (rw (e1, e3) at (c.pair_sum-a0.ensures k h))) in
    let is_b0 : (k : ℕ) → k < 8 → at c.pair_sum-b0.result k ≡ weight 0 5 *ℤ x5 k +ℤ weight 0 7 *ℤ x7 k = λ k h. search (rules, (rw (e5, e7) at (c.pair_sum-b0.ensures k h))) in
    let is_a1 : (k : ℕ) → k < 8 → at c.pair_sum-a1.result k ≡ weight 1 1 *ℤ x1 k +ℤ weight 1 3 *ℤ x3 k = λ k h. search (rules, (rw (e1, e3) at (c.pair_sum-a1.ensures k h))) in
    let is_b1 : (k : ℕ) → k < 8 → at c.pair_sum-b1.result k ≡ weight 1 5 *ℤ x5 k +ℤ weight 1 7 *ℤ x7 k = λ k h. search (rules, (rw (e5, e7) at (c.pair_sum-b1.ensures k h))) in
    let is_a2 : (k : ℕ) → k < 8 → at c.pair_sum-a2.result k ≡ weight 2 1 *ℤ x1 k +ℤ weight 2 3 *ℤ x3 k = λ k h. search (rules, (rw (e1, e3) at (c.pair_sum-a2.ensures k h))) in
    let is_b2 : (k : ℕ) → k < 8 → at c.pair_sum-b2.result k ≡ weight 2 5 *ℤ x5 k +ℤ weight 2 7 *ℤ x7 k = λ k h. search (rules, (rw (e5, e7) at (c.pair_sum-b2.ensures k h))) in
    let is_a3 : (k : ℕ) → k < 8 → at c.pair_sum-a3.result k ≡ weight 3 1 *ℤ x1 k +ℤ weight 3 3 *ℤ x3 k = λ k h. search (rules, (rw (e1, e3) at (c.pair_sum-a3.ensures k h))) in
    let is_b3 : (k : ℕ) → k < 8 → at c.pair_sum-b3.result k ≡ weight 3 5 *ℤ x5 k +ℤ weight 3 7 *ℤ x7 k = λ k h. search (rules, (rw (e5, e7) at (c.pair_sum-b3.ensures k h))) in
    let entry = odd_entry x1 x3 x5 x7 w1 w3 w5 w7 in
    record {
      entry_0 = entry 0 (lit< tt) _ _ _ _ c.pair_sum-a0.type_inv c.pair_sum-b0.type_inv is_a0 is_b0;
      entry_1 = entry 1 (lit< tt) _ _ _ _ c.pair_sum-a1.type_inv c.pair_sum-b1.type_inv is_a1 is_b1;
      entry_2 = entry 2 (lit< tt) _ _ _ _ c.pair_sum-a2.type_inv c.pair_sum-b2.type_inv is_a2 is_b2;
      entry_3 = entry 3 (lit< tt) _ _ _ _ c.pair_sum-a3.type_inv c.pair_sum-b3.type_inv is_a3 is_b3;
    }
