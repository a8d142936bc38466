use Rattle.std.proofs.Common.{◌≡◌, ℕ, ◌-◌, ◌^◌, ◌<◌, ◌+ℤ◌, ◌-ℤ◌, ℤ, Bool, true, false, List, [], ◌∷◌, arith, ap, ap₂, ◌∙◌, lit<, w16, w32, to_z, of_z, map, FitsSigned}
use Rattle.std.proofs.lemmas.Int.{ints, to_z-of_z}
use Rattle.jr_idct.specs.Lanes.{half_lane, lane}
use Rattle.jr_idct.specs.Matrix.{at, even_sum, floor_div, odd_sum, row_sum, IsWithin}
use Rattle.jr_idct.proofs.Parts.{by_halves, sum_of_parts, difference_of_parts, short_parts}
use Rattle.jr_idct.proofs.Passes.{below_eight}
use Rattle.jr_idct.proofs.Vectors.{unchanged}
use Rattle.jr_idct.proofs.pass.entries.Goals as goal

fits : (z : ℤ) → IsWithin (2 ^ 26) z → FitsSigned w32 z
fits z w = omega (arith, ints, w)

half_cases : (P : Bool → Type 0) → P false → P true → (u : Bool) → P u
half_cases P f t false = f
half_cases P f t true = t

pub ends-y0-requires : goal.ends-y0-requires
ends-y0-requires c =
    let rows : List (List ℤ) = (c.args.x.0 ∷ c.args.x.1 ∷ c.args.x.2 ∷ c.args.x.3 ∷ c.args.x.4 ∷ c.args.x.5 ∷ c.args.x.6 ∷ c.args.x.7 ∷ []) in
    let constant = to_z-of_z w32 c.args.constant (fits c.args.constant c.requires.constant) in
    let x0 = unchanged w16 16 c.args.x.0 _ c.well_formed.0.1.1.0 in
    let x1 = unchanged w16 16 c.args.x.1 _ c.well_formed.0.1.1.1.0 in
    let x2 = unchanged w16 16 c.args.x.2 _ c.well_formed.0.1.1.1.1.0 in
    let x3 = unchanged w16 16 c.args.x.3 _ c.well_formed.0.1.1.1.1.1.0 in
    let x4 = unchanged w16 16 c.args.x.4 _ c.well_formed.0.1.1.1.1.1.1.0 in
    let x5 = unchanged w16 16 c.args.x.5 _ c.well_formed.0.1.1.1.1.1.1.1.0 in
    let x6 = unchanged w16 16 c.args.x.6 _ c.well_formed.0.1.1.1.1.1.1.1.1.0 in
    let x7 = unchanged w16 16 c.args.x.7 _ c.well_formed.0.1.1.1.1.1.1.1.1.1.0 in
    let lower_even : (j : ℕ) → j < 8 → at c.even_lanes-lower_even.result.0 j ≡ even_sum 0 (lane rows 0 (half_lane false j) ∷ lane rows 2 (half_lane false j) ∷ lane rows 4 (half_lane false j) ∷ lane rows 6 (half_lane false j) ∷ []) +ℤ c.args.constant =
    λ j h. rw (x0, x2, x4, x6, constant) at (c.even_lanes-lower_even.ensures.entry_0 j h) in
    let lower_odd : (j : ℕ) → j < 8 → at c.odd_lanes-lower_odd.result.0 j ≡ odd_sum 0 (lane rows 1 (half_lane false j) ∷ lane rows 3 (half_lane false j) ∷ lane rows 5 (half_lane false j) ∷ lane rows 7 (half_lane false j) ∷ []) =
    λ j h. rw (x1, x3, x5, x7) at (c.odd_lanes-lower_odd.ensures.entry_0 j h) in
    let upper_even : (j : ℕ) → j < 8 → at c.even_lanes-upper_even.result.0 j ≡ even_sum 0 (lane rows 0 (half_lane true j) ∷ lane rows 2 (half_lane true j) ∷ lane rows 4 (half_lane true j) ∷ lane rows 6 (half_lane true j) ∷ []) +ℤ c.args.constant =
    λ j h. rw (x0, x2, x4, x6, constant) at (c.even_lanes-upper_even.ensures.entry_0 j h) in
    let upper_odd : (j : ℕ) → j < 8 → at c.odd_lanes-upper_odd.result.0 j ≡ odd_sum 0 (lane rows 1 (half_lane true j) ∷ lane rows 3 (half_lane true j) ∷ lane rows 5 (half_lane true j) ∷ lane rows 7 (half_lane true j) ∷ []) =
    λ j h. rw (x1, x3, x5, x7) at (c.odd_lanes-upper_odd.ensures.entry_0 j h) in
    let g_lower_even = unchanged w32 8 c.even_lanes-lower_even.result.0 _ c.even_lanes-lower_even.type_inv.1.1.0 in
    let g_lower_odd = unchanged w32 8 c.odd_lanes-lower_odd.result.0 _ c.odd_lanes-lower_odd.type_inv.1.1.0 in
    let g_upper_even = unchanged w32 8 c.even_lanes-upper_even.result.0 _ c.even_lanes-upper_even.type_inv.1.1.0 in
    let g_upper_odd = unchanged w32 8 c.odd_lanes-upper_odd.result.0 _ c.odd_lanes-upper_odd.type_inv.1.1.0 in
    record {
      few = c.requires.few;
      lower = rw (g_lower_even, g_lower_odd) (short_parts rows c.args.constant false 0 (lit< tt) _ _ lower_even lower_odd c.args.bits c.requires.short);
      upper = rw (g_upper_even, g_upper_odd) (short_parts rows c.args.constant true 0 (lit< tt) _ _ upper_even upper_odd c.args.bits c.requires.short);
    }

pub ends-y1-requires : goal.ends-y1-requires
ends-y1-requires c =
    let rows : List (List ℤ) = (c.args.x.0 ∷ c.args.x.1 ∷ c.args.x.2 ∷ c.args.x.3 ∷ c.args.x.4 ∷ c.args.x.5 ∷ c.args.x.6 ∷ c.args.x.7 ∷ []) in
    let constant = to_z-of_z w32 c.args.constant (fits c.args.constant c.requires.constant) in
    let x0 = unchanged w16 16 c.args.x.0 _ c.well_formed.0.1.1.0 in
    let x1 = unchanged w16 16 c.args.x.1 _ c.well_formed.0.1.1.1.0 in
    let x2 = unchanged w16 16 c.args.x.2 _ c.well_formed.0.1.1.1.1.0 in
    let x3 = unchanged w16 16 c.args.x.3 _ c.well_formed.0.1.1.1.1.1.0 in
    let x4 = unchanged w16 16 c.args.x.4 _ c.well_formed.0.1.1.1.1.1.1.0 in
    let x5 = unchanged w16 16 c.args.x.5 _ c.well_formed.0.1.1.1.1.1.1.1.0 in
    let x6 = unchanged w16 16 c.args.x.6 _ c.well_formed.0.1.1.1.1.1.1.1.1.0 in
    let x7 = unchanged w16 16 c.args.x.7 _ c.well_formed.0.1.1.1.1.1.1.1.1.1.0 in
    let lower_even : (j : ℕ) → j < 8 → at c.even_lanes-lower_even.result.1 j ≡ even_sum 1 (lane rows 0 (half_lane false j) ∷ lane rows 2 (half_lane false j) ∷ lane rows 4 (half_lane false j) ∷ lane rows 6 (half_lane false j) ∷ []) +ℤ c.args.constant =
    λ j h. rw (x0, x2, x4, x6, constant) at (c.even_lanes-lower_even.ensures.entry_1 j h) in
    let lower_odd : (j : ℕ) → j < 8 → at c.odd_lanes-lower_odd.result.1 j ≡ odd_sum 1 (lane rows 1 (half_lane false j) ∷ lane rows 3 (half_lane false j) ∷ lane rows 5 (half_lane false j) ∷ lane rows 7 (half_lane false j) ∷ []) =
    λ j h. rw (x1, x3, x5, x7) at (c.odd_lanes-lower_odd.ensures.entry_1 j h) in
    let upper_even : (j : ℕ) → j < 8 → at c.even_lanes-upper_even.result.1 j ≡ even_sum 1 (lane rows 0 (half_lane true j) ∷ lane rows 2 (half_lane true j) ∷ lane rows 4 (half_lane true j) ∷ lane rows 6 (half_lane true j) ∷ []) +ℤ c.args.constant =
    λ j h. rw (x0, x2, x4, x6, constant) at (c.even_lanes-upper_even.ensures.entry_1 j h) in
    let upper_odd : (j : ℕ) → j < 8 → at c.odd_lanes-upper_odd.result.1 j ≡ odd_sum 1 (lane rows 1 (half_lane true j) ∷ lane rows 3 (half_lane true j) ∷ lane rows 5 (half_lane true j) ∷ lane rows 7 (half_lane true j) ∷ []) =
    λ j h. rw (x1, x3, x5, x7) at (c.odd_lanes-upper_odd.ensures.entry_1 j h) in
    let g_lower_even = unchanged w32 8 c.even_lanes-lower_even.result.1 _ c.even_lanes-lower_even.type_inv.1.1.1.0 in
    let g_lower_odd = unchanged w32 8 c.odd_lanes-lower_odd.result.1 _ c.odd_lanes-lower_odd.type_inv.1.1.1.0 in
    let g_upper_even = unchanged w32 8 c.even_lanes-upper_even.result.1 _ c.even_lanes-upper_even.type_inv.1.1.1.0 in
    let g_upper_odd = unchanged w32 8 c.odd_lanes-upper_odd.result.1 _ c.odd_lanes-upper_odd.type_inv.1.1.1.0 in
    record {
      few = c.requires.few;
      lower = rw (g_lower_even, g_lower_odd) (short_parts rows c.args.constant false 1 (lit< tt) _ _ lower_even lower_odd c.args.bits c.requires.short);
      upper = rw (g_upper_even, g_upper_odd) (short_parts rows c.args.constant true 1 (lit< tt) _ _ upper_even upper_odd c.args.bits c.requires.short);
    }

pub ends-y2-requires : goal.ends-y2-requires
ends-y2-requires c =
    let rows : List (List ℤ) = (c.args.x.0 ∷ c.args.x.1 ∷ c.args.x.2 ∷ c.args.x.3 ∷ c.args.x.4 ∷ c.args.x.5 ∷ c.args.x.6 ∷ c.args.x.7 ∷ []) in
    let constant = to_z-of_z w32 c.args.constant (fits c.args.constant c.requires.constant) in
    let x0 = unchanged w16 16 c.args.x.0 _ c.well_formed.0.1.1.0 in
    let x1 = unchanged w16 16 c.args.x.1 _ c.well_formed.0.1.1.1.0 in
    let x2 = unchanged w16 16 c.args.x.2 _ c.well_formed.0.1.1.1.1.0 in
    let x3 = unchanged w16 16 c.args.x.3 _ c.well_formed.0.1.1.1.1.1.0 in
    let x4 = unchanged w16 16 c.args.x.4 _ c.well_formed.0.1.1.1.1.1.1.0 in
    let x5 = unchanged w16 16 c.args.x.5 _ c.well_formed.0.1.1.1.1.1.1.1.0 in
    let x6 = unchanged w16 16 c.args.x.6 _ c.well_formed.0.1.1.1.1.1.1.1.1.0 in
    let x7 = unchanged w16 16 c.args.x.7 _ c.well_formed.0.1.1.1.1.1.1.1.1.1.0 in
    let lower_even : (j : ℕ) → j < 8 → at c.even_lanes-lower_even.result.2 j ≡ even_sum 2 (lane rows 0 (half_lane false j) ∷ lane rows 2 (half_lane false j) ∷ lane rows 4 (half_lane false j) ∷ lane rows 6 (half_lane false j) ∷ []) +ℤ c.args.constant =
    λ j h. rw (x0, x2, x4, x6, constant) at (c.even_lanes-lower_even.ensures.entry_2 j h) in
    let lower_odd : (j : ℕ) → j < 8 → at c.odd_lanes-lower_odd.result.2 j ≡ odd_sum 2 (lane rows 1 (half_lane false j) ∷ lane rows 3 (half_lane false j) ∷ lane rows 5 (half_lane false j) ∷ lane rows 7 (half_lane false j) ∷ []) =
    λ j h. rw (x1, x3, x5, x7) at (c.odd_lanes-lower_odd.ensures.entry_2 j h) in
    let upper_even : (j : ℕ) → j < 8 → at c.even_lanes-upper_even.result.2 j ≡ even_sum 2 (lane rows 0 (half_lane true j) ∷ lane rows 2 (half_lane true j) ∷ lane rows 4 (half_lane true j) ∷ lane rows 6 (half_lane true j) ∷ []) +ℤ c.args.constant =
    λ j h. rw (x0, x2, x4, x6, constant) at (c.even_lanes-upper_even.ensures.entry_2 j h) in
    let upper_odd : (j : ℕ) → j < 8 → at c.odd_lanes-upper_odd.result.2 j ≡ odd_sum 2 (lane rows 1 (half_lane true j) ∷ lane rows 3 (half_lane true j) ∷ lane rows 5 (half_lane true j) ∷ lane rows 7 (half_lane true j) ∷ []) =
    λ j h. rw (x1, x3, x5, x7) at (c.odd_lanes-upper_odd.ensures.entry_2 j h) in
    let g_lower_even = unchanged w32 8 c.even_lanes-lower_even.result.2 _ c.even_lanes-lower_even.type_inv.1.1.1.1.0 in
    let g_lower_odd = unchanged w32 8 c.odd_lanes-lower_odd.result.2 _ c.odd_lanes-lower_odd.type_inv.1.1.1.1.0 in
    let g_upper_even = unchanged w32 8 c.even_lanes-upper_even.result.2 _ c.even_lanes-upper_even.type_inv.1.1.1.1.0 in
    let g_upper_odd = unchanged w32 8 c.odd_lanes-upper_odd.result.2 _ c.odd_lanes-upper_odd.type_inv.1.1.1.1.0 in
    record {
      few = c.requires.few;
      lower = rw (g_lower_even, g_lower_odd) (short_parts rows c.args.constant false 2 (lit< tt) _ _ lower_even lower_odd c.args.bits c.requires.short);
      upper = rw (g_upper_even, g_upper_odd) (short_parts rows c.args.constant true 2 (lit< tt) _ _ upper_even upper_odd c.args.bits c.requires.short);
    }

pub ends-y3-requires : goal.ends-y3-requires
ends-y3-requires c =
    let rows : List (List ℤ) = (c.args.x.0 ∷ c.args.x.1 ∷ c.args.x.2 ∷ c.args.x.3 ∷ c.args.x.4 ∷ c.args.x.5 ∷ c.args.x.6 ∷ c.args.x.7 ∷ []) in
    let constant = to_z-of_z w32 c.args.constant (fits c.args.constant c.requires.constant) in
    let x0 = unchanged w16 16 c.args.x.0 _ c.well_formed.0.1.1.0 in
    let x1 = unchanged w16 16 c.args.x.1 _ c.well_formed.0.1.1.1.0 in
    let x2 = unchanged w16 16 c.args.x.2 _ c.well_formed.0.1.1.1.1.0 in
    let x3 = unchanged w16 16 c.args.x.3 _ c.well_formed.0.1.1.1.1.1.0 in
    let x4 = unchanged w16 16 c.args.x.4 _ c.well_formed.0.1.1.1.1.1.1.0 in
    let x5 = unchanged w16 16 c.args.x.5 _ c.well_formed.0.1.1.1.1.1.1.1.0 in
    let x6 = unchanged w16 16 c.args.x.6 _ c.well_formed.0.1.1.1.1.1.1.1.1.0 in
    let x7 = unchanged w16 16 c.args.x.7 _ c.well_formed.0.1.1.1.1.1.1.1.1.1.0 in
    let lower_even : (j : ℕ) → j < 8 → at c.even_lanes-lower_even.result.3 j ≡ even_sum 3 (lane rows 0 (half_lane false j) ∷ lane rows 2 (half_lane false j) ∷ lane rows 4 (half_lane false j) ∷ lane rows 6 (half_lane false j) ∷ []) +ℤ c.args.constant =
    λ j h. rw (x0, x2, x4, x6, constant) at (c.even_lanes-lower_even.ensures.entry_3 j h) in
    let lower_odd : (j : ℕ) → j < 8 → at c.odd_lanes-lower_odd.result.3 j ≡ odd_sum 3 (lane rows 1 (half_lane false j) ∷ lane rows 3 (half_lane false j) ∷ lane rows 5 (half_lane false j) ∷ lane rows 7 (half_lane false j) ∷ []) =
    λ j h. rw (x1, x3, x5, x7) at (c.odd_lanes-lower_odd.ensures.entry_3 j h) in
    let upper_even : (j : ℕ) → j < 8 → at c.even_lanes-upper_even.result.3 j ≡ even_sum 3 (lane rows 0 (half_lane true j) ∷ lane rows 2 (half_lane true j) ∷ lane rows 4 (half_lane true j) ∷ lane rows 6 (half_lane true j) ∷ []) +ℤ c.args.constant =
    λ j h. rw (x0, x2, x4, x6, constant) at (c.even_lanes-upper_even.ensures.entry_3 j h) in
    let upper_odd : (j : ℕ) → j < 8 → at c.odd_lanes-upper_odd.result.3 j ≡ odd_sum 3 (lane rows 1 (half_lane true j) ∷ lane rows 3 (half_lane true j) ∷ lane rows 5 (half_lane true j) ∷ lane rows 7 (half_lane true j) ∷ []) =
    λ j h. rw (x1, x3, x5, x7) at (c.odd_lanes-upper_odd.ensures.entry_3 j h) in
    let g_lower_even = unchanged w32 8 c.even_lanes-lower_even.result.3 _ c.even_lanes-lower_even.type_inv.1.1.1.1.1.0 in
    let g_lower_odd = unchanged w32 8 c.odd_lanes-lower_odd.result.3 _ c.odd_lanes-lower_odd.type_inv.1.1.1.1.1.0 in
    let g_upper_even = unchanged w32 8 c.even_lanes-upper_even.result.3 _ c.even_lanes-upper_even.type_inv.1.1.1.1.1.0 in
    let g_upper_odd = unchanged w32 8 c.odd_lanes-upper_odd.result.3 _ c.odd_lanes-upper_odd.type_inv.1.1.1.1.1.0 in
    record {
      few = c.requires.few;
      lower = rw (g_lower_even, g_lower_odd) (short_parts rows c.args.constant false 3 (lit< tt) _ _ lower_even lower_odd c.args.bits c.requires.short);
      upper = rw (g_upper_even, g_upper_odd) (short_parts rows c.args.constant true 3 (lit< tt) _ _ upper_even upper_odd c.args.bits c.requires.short);
    }

pub returns : goal.returns
returns c =
    let rows : List (List ℤ) = (c.args.x.0 ∷ c.args.x.1 ∷ c.args.x.2 ∷ c.args.x.3 ∷ c.args.x.4 ∷ c.args.x.5 ∷ c.args.x.6 ∷ c.args.x.7 ∷ []) in
    let constant = to_z-of_z w32 c.args.constant (fits c.args.constant c.requires.constant) in
    let x0 = unchanged w16 16 c.args.x.0 _ c.well_formed.0.1.1.0 in
    let x1 = unchanged w16 16 c.args.x.1 _ c.well_formed.0.1.1.1.0 in
    let x2 = unchanged w16 16 c.args.x.2 _ c.well_formed.0.1.1.1.1.0 in
    let x3 = unchanged w16 16 c.args.x.3 _ c.well_formed.0.1.1.1.1.1.0 in
    let x4 = unchanged w16 16 c.args.x.4 _ c.well_formed.0.1.1.1.1.1.1.0 in
    let x5 = unchanged w16 16 c.args.x.5 _ c.well_formed.0.1.1.1.1.1.1.1.0 in
    let x6 = unchanged w16 16 c.args.x.6 _ c.well_formed.0.1.1.1.1.1.1.1.1.0 in
    let x7 = unchanged w16 16 c.args.x.7 _ c.well_formed.0.1.1.1.1.1.1.1.1.1.0 in
    let lower_even_0 : (j : ℕ) → j < 8 → at c.even_lanes-lower_even.result.0 j ≡ even_sum 0 (lane rows 0 (half_lane false j) ∷ lane rows 2 (half_lane false j) ∷ lane rows 4 (half_lane false j) ∷ lane rows 6 (half_lane false j) ∷ []) +ℤ c.args.constant =
    λ j h. rw (x0, x2, x4, x6, constant) at (c.even_lanes-lower_even.ensures.entry_0 j h) in
    let lower_odd_0 : (j : ℕ) → j < 8 → at c.odd_lanes-lower_odd.result.0 j ≡ odd_sum 0 (lane rows 1 (half_lane false j) ∷ lane rows 3 (half_lane false j) ∷ lane rows 5 (half_lane false j) ∷ lane rows 7 (half_lane false j) ∷ []) =
    λ j h. rw (x1, x3, x5, x7) at (c.odd_lanes-lower_odd.ensures.entry_0 j h) in
    let upper_even_0 : (j : ℕ) → j < 8 → at c.even_lanes-upper_even.result.0 j ≡ even_sum 0 (lane rows 0 (half_lane true j) ∷ lane rows 2 (half_lane true j) ∷ lane rows 4 (half_lane true j) ∷ lane rows 6 (half_lane true j) ∷ []) +ℤ c.args.constant =
    λ j h. rw (x0, x2, x4, x6, constant) at (c.even_lanes-upper_even.ensures.entry_0 j h) in
    let upper_odd_0 : (j : ℕ) → j < 8 → at c.odd_lanes-upper_odd.result.0 j ≡ odd_sum 0 (lane rows 1 (half_lane true j) ∷ lane rows 3 (half_lane true j) ∷ lane rows 5 (half_lane true j) ∷ lane rows 7 (half_lane true j) ∷ []) =
    λ j h. rw (x1, x3, x5, x7) at (c.odd_lanes-upper_odd.ensures.entry_0 j h) in
    let g_lower_even_0 = unchanged w32 8 c.even_lanes-lower_even.result.0 _ c.even_lanes-lower_even.type_inv.1.1.0 in
    let g_lower_odd_0 = unchanged w32 8 c.odd_lanes-lower_odd.result.0 _ c.odd_lanes-lower_odd.type_inv.1.1.0 in
    let g_upper_even_0 = unchanged w32 8 c.even_lanes-upper_even.result.0 _ c.even_lanes-upper_even.type_inv.1.1.0 in
    let g_upper_odd_0 = unchanged w32 8 c.odd_lanes-upper_odd.result.0 _ c.odd_lanes-upper_odd.type_inv.1.1.0 in
    let first_0 : (p : ℕ) → p < 16 → at (map (to_z w16) (map (of_z w16) c.ends-y0.result.0)) p ≡ floor_div (row_sum 0 (λ k. lane rows k p) +ℤ c.args.constant) (2 ^ c.args.bits) =
    rw (unchanged w16 16 c.ends-y0.result.0 _ c.ends-y0.type_inv.1.1.0) (by_halves (λ p. at c.ends-y0.result.0 p ≡ floor_div (row_sum 0 (λ k. lane rows k p) +ℤ c.args.constant) (2 ^ c.args.bits))
    (half_cases (λ u. (j : ℕ) → j < 8 → at c.ends-y0.result.0 (half_lane u j) ≡ floor_div (row_sum 0 (λ k. lane rows k (half_lane u j)) +ℤ c.args.constant) (2 ^ c.args.bits))
    (λ j h. c.ends-y0.ensures.first_lower j h ∙ ap₂ (λ x y. floor_div (at x j +ℤ at y j) (2 ^ c.args.bits)) g_lower_even_0 g_lower_odd_0 ∙ ap (λ z. floor_div z (2 ^ c.args.bits)) (sum_of_parts rows c.args.constant false 0 (lit< tt) _ _ lower_even_0 lower_odd_0 j h))
    (λ j h. c.ends-y0.ensures.first_upper j h ∙ ap₂ (λ x y. floor_div (at x j +ℤ at y j) (2 ^ c.args.bits)) g_upper_even_0 g_upper_odd_0 ∙ ap (λ z. floor_div z (2 ^ c.args.bits)) (sum_of_parts rows c.args.constant true 0 (lit< tt) _ _ upper_even_0 upper_odd_0 j h)))) in
    let last_0 : (p : ℕ) → p < 16 → at (map (to_z w16) (map (of_z w16) c.ends-y0.result.1)) p ≡ floor_div (row_sum (7 - 0) (λ k. lane rows k p) +ℤ c.args.constant) (2 ^ c.args.bits) =
    rw (unchanged w16 16 c.ends-y0.result.1 _ c.ends-y0.type_inv.1.1.1.0) (by_halves (λ p. at c.ends-y0.result.1 p ≡ floor_div (row_sum (7 - 0) (λ k. lane rows k p) +ℤ c.args.constant) (2 ^ c.args.bits))
    (half_cases (λ u. (j : ℕ) → j < 8 → at c.ends-y0.result.1 (half_lane u j) ≡ floor_div (row_sum (7 - 0) (λ k. lane rows k (half_lane u j)) +ℤ c.args.constant) (2 ^ c.args.bits))
    (λ j h. c.ends-y0.ensures.last_lower j h ∙ ap₂ (λ x y. floor_div (at x j -ℤ at y j) (2 ^ c.args.bits)) g_lower_even_0 g_lower_odd_0 ∙ ap (λ z. floor_div z (2 ^ c.args.bits)) (difference_of_parts rows c.args.constant false 0 (lit< tt) _ _ lower_even_0 lower_odd_0 j h))
    (λ j h. c.ends-y0.ensures.last_upper j h ∙ ap₂ (λ x y. floor_div (at x j -ℤ at y j) (2 ^ c.args.bits)) g_upper_even_0 g_upper_odd_0 ∙ ap (λ z. floor_div z (2 ^ c.args.bits)) (difference_of_parts rows c.args.constant true 0 (lit< tt) _ _ upper_even_0 upper_odd_0 j h)))) in
    let lower_even_1 : (j : ℕ) → j < 8 → at c.even_lanes-lower_even.result.1 j ≡ even_sum 1 (lane rows 0 (half_lane false j) ∷ lane rows 2 (half_lane false j) ∷ lane rows 4 (half_lane false j) ∷ lane rows 6 (half_lane false j) ∷ []) +ℤ c.args.constant =
    λ j h. rw (x0, x2, x4, x6, constant) at (c.even_lanes-lower_even.ensures.entry_1 j h) in
    let lower_odd_1 : (j : ℕ) → j < 8 → at c.odd_lanes-lower_odd.result.1 j ≡ odd_sum 1 (lane rows 1 (half_lane false j) ∷ lane rows 3 (half_lane false j) ∷ lane rows 5 (half_lane false j) ∷ lane rows 7 (half_lane false j) ∷ []) =
    λ j h. rw (x1, x3, x5, x7) at (c.odd_lanes-lower_odd.ensures.entry_1 j h) in
    let upper_even_1 : (j : ℕ) → j < 8 → at c.even_lanes-upper_even.result.1 j ≡ even_sum 1 (lane rows 0 (half_lane true j) ∷ lane rows 2 (half_lane true j) ∷ lane rows 4 (half_lane true j) ∷ lane rows 6 (half_lane true j) ∷ []) +ℤ c.args.constant =
    λ j h. rw (x0, x2, x4, x6, constant) at (c.even_lanes-upper_even.ensures.entry_1 j h) in
    let upper_odd_1 : (j : ℕ) → j < 8 → at c.odd_lanes-upper_odd.result.1 j ≡ odd_sum 1 (lane rows 1 (half_lane true j) ∷ lane rows 3 (half_lane true j) ∷ lane rows 5 (half_lane true j) ∷ lane rows 7 (half_lane true j) ∷ []) =
    λ j h. rw (x1, x3, x5, x7) at (c.odd_lanes-upper_odd.ensures.entry_1 j h) in
    let g_lower_even_1 = unchanged w32 8 c.even_lanes-lower_even.result.1 _ c.even_lanes-lower_even.type_inv.1.1.1.0 in
    let g_lower_odd_1 = unchanged w32 8 c.odd_lanes-lower_odd.result.1 _ c.odd_lanes-lower_odd.type_inv.1.1.1.0 in
    let g_upper_even_1 = unchanged w32 8 c.even_lanes-upper_even.result.1 _ c.even_lanes-upper_even.type_inv.1.1.1.0 in
    let g_upper_odd_1 = unchanged w32 8 c.odd_lanes-upper_odd.result.1 _ c.odd_lanes-upper_odd.type_inv.1.1.1.0 in
    let first_1 : (p : ℕ) → p < 16 → at (map (to_z w16) (map (of_z w16) c.ends-y1.result.0)) p ≡ floor_div (row_sum 1 (λ k. lane rows k p) +ℤ c.args.constant) (2 ^ c.args.bits) =
    rw (unchanged w16 16 c.ends-y1.result.0 _ c.ends-y1.type_inv.1.1.0) (by_halves (λ p. at c.ends-y1.result.0 p ≡ floor_div (row_sum 1 (λ k. lane rows k p) +ℤ c.args.constant) (2 ^ c.args.bits))
    (half_cases (λ u. (j : ℕ) → j < 8 → at c.ends-y1.result.0 (half_lane u j) ≡ floor_div (row_sum 1 (λ k. lane rows k (half_lane u j)) +ℤ c.args.constant) (2 ^ c.args.bits))
    (λ j h. c.ends-y1.ensures.first_lower j h ∙ ap₂ (λ x y. floor_div (at x j +ℤ at y j) (2 ^ c.args.bits)) g_lower_even_1 g_lower_odd_1 ∙ ap (λ z. floor_div z (2 ^ c.args.bits)) (sum_of_parts rows c.args.constant false 1 (lit< tt) _ _ lower_even_1 lower_odd_1 j h))
    (λ j h. c.ends-y1.ensures.first_upper j h ∙ ap₂ (λ x y. floor_div (at x j +ℤ at y j) (2 ^ c.args.bits)) g_upper_even_1 g_upper_odd_1 ∙ ap (λ z. floor_div z (2 ^ c.args.bits)) (sum_of_parts rows c.args.constant true 1 (lit< tt) _ _ upper_even_1 upper_odd_1 j h)))) in
    let last_1 : (p : ℕ) → p < 16 → at (map (to_z w16) (map (of_z w16) c.ends-y1.result.1)) p ≡ floor_div (row_sum (7 - 1) (λ k. lane rows k p) +ℤ c.args.constant) (2 ^ c.args.bits) =
    rw (unchanged w16 16 c.ends-y1.result.1 _ c.ends-y1.type_inv.1.1.1.0) (by_halves (λ p. at c.ends-y1.result.1 p ≡ floor_div (row_sum (7 - 1) (λ k. lane rows k p) +ℤ c.args.constant) (2 ^ c.args.bits))
    (half_cases (λ u. (j : ℕ) → j < 8 → at c.ends-y1.result.1 (half_lane u j) ≡ floor_div (row_sum (7 - 1) (λ k. lane rows k (half_lane u j)) +ℤ c.args.constant) (2 ^ c.args.bits))
    (λ j h. c.ends-y1.ensures.last_lower j h ∙ ap₂ (λ x y. floor_div (at x j -ℤ at y j) (2 ^ c.args.bits)) g_lower_even_1 g_lower_odd_1 ∙ ap (λ z. floor_div z (2 ^ c.args.bits)) (difference_of_parts rows c.args.constant false 1 (lit< tt) _ _ lower_even_1 lower_odd_1 j h))
    (λ j h. c.ends-y1.ensures.last_upper j h ∙ ap₂ (λ x y. floor_div (at x j -ℤ at y j) (2 ^ c.args.bits)) g_upper_even_1 g_upper_odd_1 ∙ ap (λ z. floor_div z (2 ^ c.args.bits)) (difference_of_parts rows c.args.constant true 1 (lit< tt) _ _ upper_even_1 upper_odd_1 j h)))) in
    let lower_even_2 : (j : ℕ) → j < 8 → at c.even_lanes-lower_even.result.2 j ≡ even_sum 2 (lane rows 0 (half_lane false j) ∷ lane rows 2 (half_lane false j) ∷ lane rows 4 (half_lane false j) ∷ lane rows 6 (half_lane false j) ∷ []) +ℤ c.args.constant =
    λ j h. rw (x0, x2, x4, x6, constant) at (c.even_lanes-lower_even.ensures.entry_2 j h) in
    let lower_odd_2 : (j : ℕ) → j < 8 → at c.odd_lanes-lower_odd.result.2 j ≡ odd_sum 2 (lane rows 1 (half_lane false j) ∷ lane rows 3 (half_lane false j) ∷ lane rows 5 (half_lane false j) ∷ lane rows 7 (half_lane false j) ∷ []) =
    λ j h. rw (x1, x3, x5, x7) at (c.odd_lanes-lower_odd.ensures.entry_2 j h) in
    let upper_even_2 : (j : ℕ) → j < 8 → at c.even_lanes-upper_even.result.2 j ≡ even_sum 2 (lane rows 0 (half_lane true j) ∷ lane rows 2 (half_lane true j) ∷ lane rows 4 (half_lane true j) ∷ lane rows 6 (half_lane true j) ∷ []) +ℤ c.args.constant =
    λ j h. rw (x0, x2, x4, x6, constant) at (c.even_lanes-upper_even.ensures.entry_2 j h) in
    let upper_odd_2 : (j : ℕ) → j < 8 → at c.odd_lanes-upper_odd.result.2 j ≡ odd_sum 2 (lane rows 1 (half_lane true j) ∷ lane rows 3 (half_lane true j) ∷ lane rows 5 (half_lane true j) ∷ lane rows 7 (half_lane true j) ∷ []) =
    λ j h. rw (x1, x3, x5, x7) at (c.odd_lanes-upper_odd.ensures.entry_2 j h) in
    let g_lower_even_2 = unchanged w32 8 c.even_lanes-lower_even.result.2 _ c.even_lanes-lower_even.type_inv.1.1.1.1.0 in
    let g_lower_odd_2 = unchanged w32 8 c.odd_lanes-lower_odd.result.2 _ c.odd_lanes-lower_odd.type_inv.1.1.1.1.0 in
    let g_upper_even_2 = unchanged w32 8 c.even_lanes-upper_even.result.2 _ c.even_lanes-upper_even.type_inv.1.1.1.1.0 in
    let g_upper_odd_2 = unchanged w32 8 c.odd_lanes-upper_odd.result.2 _ c.odd_lanes-upper_odd.type_inv.1.1.1.1.0 in
    let first_2 : (p : ℕ) → p < 16 → at (map (to_z w16) (map (of_z w16) c.ends-y2.result.0)) p ≡ floor_div (row_sum 2 (λ k. lane rows k p) +ℤ c.args.constant) (2 ^ c.args.bits) =
    rw (unchanged w16 16 c.ends-y2.result.0 _ c.ends-y2.type_inv.1.1.0) (by_halves (λ p. at c.ends-y2.result.0 p ≡ floor_div (row_sum 2 (λ k. lane rows k p) +ℤ c.args.constant) (2 ^ c.args.bits))
    (half_cases (λ u. (j : ℕ) → j < 8 → at c.ends-y2.result.0 (half_lane u j) ≡ floor_div (row_sum 2 (λ k. lane rows k (half_lane u j)) +ℤ c.args.constant) (2 ^ c.args.bits))
    (λ j h. c.ends-y2.ensures.first_lower j h ∙ ap₂ (λ x y. floor_div (at x j +ℤ at y j) (2 ^ c.args.bits)) g_lower_even_2 g_lower_odd_2 ∙ ap (λ z. floor_div z (2 ^ c.args.bits)) (sum_of_parts rows c.args.constant false 2 (lit< tt) _ _ lower_even_2 lower_odd_2 j h))
    (λ j h. c.ends-y2.ensures.first_upper j h ∙ ap₂ (λ x y. floor_div (at x j +ℤ at y j) (2 ^ c.args.bits)) g_upper_even_2 g_upper_odd_2 ∙ ap (λ z. floor_div z (2 ^ c.args.bits)) (sum_of_parts rows c.args.constant true 2 (lit< tt) _ _ upper_even_2 upper_odd_2 j h)))) in
    let last_2 : (p : ℕ) → p < 16 → at (map (to_z w16) (map (of_z w16) c.ends-y2.result.1)) p ≡ floor_div (row_sum (7 - 2) (λ k. lane rows k p) +ℤ c.args.constant) (2 ^ c.args.bits) =
    rw (unchanged w16 16 c.ends-y2.result.1 _ c.ends-y2.type_inv.1.1.1.0) (by_halves (λ p. at c.ends-y2.result.1 p ≡ floor_div (row_sum (7 - 2) (λ k. lane rows k p) +ℤ c.args.constant) (2 ^ c.args.bits))
    (half_cases (λ u. (j : ℕ) → j < 8 → at c.ends-y2.result.1 (half_lane u j) ≡ floor_div (row_sum (7 - 2) (λ k. lane rows k (half_lane u j)) +ℤ c.args.constant) (2 ^ c.args.bits))
    (λ j h. c.ends-y2.ensures.last_lower j h ∙ ap₂ (λ x y. floor_div (at x j -ℤ at y j) (2 ^ c.args.bits)) g_lower_even_2 g_lower_odd_2 ∙ ap (λ z. floor_div z (2 ^ c.args.bits)) (difference_of_parts rows c.args.constant false 2 (lit< tt) _ _ lower_even_2 lower_odd_2 j h))
    (λ j h. c.ends-y2.ensures.last_upper j h ∙ ap₂ (λ x y. floor_div (at x j -ℤ at y j) (2 ^ c.args.bits)) g_upper_even_2 g_upper_odd_2 ∙ ap (λ z. floor_div z (2 ^ c.args.bits)) (difference_of_parts rows c.args.constant true 2 (lit< tt) _ _ upper_even_2 upper_odd_2 j h)))) in
    let lower_even_3 : (j : ℕ) → j < 8 → at c.even_lanes-lower_even.result.3 j ≡ even_sum 3 (lane rows 0 (half_lane false j) ∷ lane rows 2 (half_lane false j) ∷ lane rows 4 (half_lane false j) ∷ lane rows 6 (half_lane false j) ∷ []) +ℤ c.args.constant =
    λ j h. rw (x0, x2, x4, x6, constant) at (c.even_lanes-lower_even.ensures.entry_3 j h) in
    let lower_odd_3 : (j : ℕ) → j < 8 → at c.odd_lanes-lower_odd.result.3 j ≡ odd_sum 3 (lane rows 1 (half_lane false j) ∷ lane rows 3 (half_lane false j) ∷ lane rows 5 (half_lane false j) ∷ lane rows 7 (half_lane false j) ∷ []) =
    λ j h. rw (x1, x3, x5, x7) at (c.odd_lanes-lower_odd.ensures.entry_3 j h) in
    let upper_even_3 : (j : ℕ) → j < 8 → at c.even_lanes-upper_even.result.3 j ≡ even_sum 3 (lane rows 0 (half_lane true j) ∷ lane rows 2 (half_lane true j) ∷ lane rows 4 (half_lane true j) ∷ lane rows 6 (half_lane true j) ∷ []) +ℤ c.args.constant =
    λ j h. rw (x0, x2, x4, x6, constant) at (c.even_lanes-upper_even.ensures.entry_3 j h) in
    let upper_odd_3 : (j : ℕ) → j < 8 → at c.odd_lanes-upper_odd.result.3 j ≡ odd_sum 3 (lane rows 1 (half_lane true j) ∷ lane rows 3 (half_lane true j) ∷ lane rows 5 (half_lane true j) ∷ lane rows 7 (half_lane true j) ∷ []) =
    λ j h. rw (x1, x3, x5, x7) at (c.odd_lanes-upper_odd.ensures.entry_3 j h) in
    let g_lower_even_3 = unchanged w32 8 c.even_lanes-lower_even.result.3 _ c.even_lanes-lower_even.type_inv.1.1.1.1.1.0 in
    let g_lower_odd_3 = unchanged w32 8 c.odd_lanes-lower_odd.result.3 _ c.odd_lanes-lower_odd.type_inv.1.1.1.1.1.0 in
    let g_upper_even_3 = unchanged w32 8 c.even_lanes-upper_even.result.3 _ c.even_lanes-upper_even.type_inv.1.1.1.1.1.0 in
    let g_upper_odd_3 = unchanged w32 8 c.odd_lanes-upper_odd.result.3 _ c.odd_lanes-upper_odd.type_inv.1.1.1.1.1.0 in
    let first_3 : (p : ℕ) → p < 16 → at (map (to_z w16) (map (of_z w16) c.ends-y3.result.0)) p ≡ floor_div (row_sum 3 (λ k. lane rows k p) +ℤ c.args.constant) (2 ^ c.args.bits) =
    rw (unchanged w16 16 c.ends-y3.result.0 _ c.ends-y3.type_inv.1.1.0) (by_halves (λ p. at c.ends-y3.result.0 p ≡ floor_div (row_sum 3 (λ k. lane rows k p) +ℤ c.args.constant) (2 ^ c.args.bits))
    (half_cases (λ u. (j : ℕ) → j < 8 → at c.ends-y3.result.0 (half_lane u j) ≡ floor_div (row_sum 3 (λ k. lane rows k (half_lane u j)) +ℤ c.args.constant) (2 ^ c.args.bits))
    (λ j h. c.ends-y3.ensures.first_lower j h ∙ ap₂ (λ x y. floor_div (at x j +ℤ at y j) (2 ^ c.args.bits)) g_lower_even_3 g_lower_odd_3 ∙ ap (λ z. floor_div z (2 ^ c.args.bits)) (sum_of_parts rows c.args.constant false 3 (lit< tt) _ _ lower_even_3 lower_odd_3 j h))
    (λ j h. c.ends-y3.ensures.first_upper j h ∙ ap₂ (λ x y. floor_div (at x j +ℤ at y j) (2 ^ c.args.bits)) g_upper_even_3 g_upper_odd_3 ∙ ap (λ z. floor_div z (2 ^ c.args.bits)) (sum_of_parts rows c.args.constant true 3 (lit< tt) _ _ upper_even_3 upper_odd_3 j h)))) in
    let last_3 : (p : ℕ) → p < 16 → at (map (to_z w16) (map (of_z w16) c.ends-y3.result.1)) p ≡ floor_div (row_sum (7 - 3) (λ k. lane rows k p) +ℤ c.args.constant) (2 ^ c.args.bits) =
    rw (unchanged w16 16 c.ends-y3.result.1 _ c.ends-y3.type_inv.1.1.1.0) (by_halves (λ p. at c.ends-y3.result.1 p ≡ floor_div (row_sum (7 - 3) (λ k. lane rows k p) +ℤ c.args.constant) (2 ^ c.args.bits))
    (half_cases (λ u. (j : ℕ) → j < 8 → at c.ends-y3.result.1 (half_lane u j) ≡ floor_div (row_sum (7 - 3) (λ k. lane rows k (half_lane u j)) +ℤ c.args.constant) (2 ^ c.args.bits))
    (λ j h. c.ends-y3.ensures.last_lower j h ∙ ap₂ (λ x y. floor_div (at x j -ℤ at y j) (2 ^ c.args.bits)) g_lower_even_3 g_lower_odd_3 ∙ ap (λ z. floor_div z (2 ^ c.args.bits)) (difference_of_parts rows c.args.constant false 3 (lit< tt) _ _ lower_even_3 lower_odd_3 j h))
    (λ j h. c.ends-y3.ensures.last_upper j h ∙ ap₂ (λ x y. floor_div (at x j -ℤ at y j) (2 ^ c.args.bits)) g_upper_even_3 g_upper_odd_3 ∙ ap (λ z. floor_div z (2 ^ c.args.bits)) (difference_of_parts rows c.args.constant true 3 (lit< tt) _ _ upper_even_3 upper_odd_3 j h)))) in
    λ i p h. below_eight (λ i. (p : ℕ) → p < 16 → lane (map (to_z w16) (map (of_z w16) c.ends-y0.result.0) ∷ map (to_z w16) (map (of_z w16) c.ends-y1.result.0) ∷ map (to_z w16) (map (of_z w16) c.ends-y2.result.0) ∷ map (to_z w16) (map (of_z w16) c.ends-y3.result.0) ∷ map (to_z w16) (map (of_z w16) c.ends-y3.result.1) ∷ map (to_z w16) (map (of_z w16) c.ends-y2.result.1) ∷ map (to_z w16) (map (of_z w16) c.ends-y1.result.1) ∷ map (to_z w16) (map (of_z w16) c.ends-y0.result.1) ∷ []) i p ≡ floor_div (row_sum i (λ k. lane rows k p) +ℤ c.args.constant) (2 ^ c.args.bits))
    first_0 first_1 first_2 first_3 last_3 last_2 last_1 last_0 i h p
