use Rattle.std.proofs.Common.{rules, ◌≡◌, ℕ, ℤ, ◌+◌, ◌*◌, ◌/◌, ◌%◌, ◌<◌, ◌≤◌, pos, List, [], ◌∷◌, arith, map, w16, to_z, of_z}
use Rattle.jr_base.specs.declared.quantisers.TheConstants.{MAX_PRODUCT}
use Rattle.jr_idct.specs.Lanes.{lane}
use Rattle.jr_idct.specs.Matrix.{IsWithin}
use Rattle.jr_idct.proofs.LowRows.{low_chain, low_first_short, low_second_short}
use Rattle.jr_idct.proofs.Vectors.{unchanged}
use Rattle.jr_idct.proofs.low.low_values.Goals as goal

-- the numbers of a vector that was handed on
abbrev kept : List ℤ → List ℤ
kept x = map (to_z w16) (map (of_z w16) x)

module _ (x0 x1 x2 x3 : List ℤ) (e0 : kept x0 ≡ x0) (e1 : kept x1 ≡ x1) (e2 : kept x2 ≡ x2) (e3 : kept x3 ≡ x3) where
  small_kept : ((k p : ℕ) → k < 8 → p < 16 → IsWithin MAX_PRODUCT (lane (x0 ∷ x1 ∷ x2 ∷ x3 ∷ []) k p)) → (k p : ℕ) → k < 8 → p < 16 → IsWithin MAX_PRODUCT (lane (kept x0 ∷ kept x1 ∷ kept x2 ∷ kept x3 ∷ []) k p)
  small_kept s = rw (e0, e1, e2, e3) s

  low_kept : ((k p : ℕ) → k < 8 → p < 16 → 4 ≤ p % 8 → lane (x0 ∷ x1 ∷ x2 ∷ x3 ∷ []) k p ≡ pos 0) → (k p : ℕ) → k < 8 → p < 16 → 4 ≤ p % 8 → lane (kept x0 ∷ kept x1 ∷ kept x2 ∷ kept x3 ∷ []) k p ≡ pos 0
  low_kept s = rw (e0, e1, e2, e3) s

  rows_kept : (place : ℕ → ℕ) (v : ℕ → ℤ) → ((j k : ℕ) → j < 8 → k < 8 → lane (x0 ∷ x1 ∷ x2 ∷ x3 ∷ []) j (place k) ≡ v (8 * j + k)) → (j k : ℕ) → j < 8 → k < 8 → lane (kept x0 ∷ kept x1 ∷ kept x2 ∷ kept x3 ∷ []) j (place k) ≡ v (8 * j + k)
  rows_kept place v s = rw (e0, e1, e2, e3) s

turned_kept : (z0 z1 z2 z3 z4 z5 z6 z7 : List ℤ) → kept z0 ≡ z0 → kept z1 ≡ z1 → kept z2 ≡ z2 → kept z3 ≡ z3 → (y : List (List ℤ))
    → ((i p : ℕ) → i < 8 → p < 16 → lane (z0 ∷ z1 ∷ z2 ∷ z3 ∷ z4 ∷ z5 ∷ z6 ∷ z7 ∷ []) i p ≡ lane y (p % 8) (8 * (p / 8) + i))
    → (i p : ℕ) → i < 8 → p < 16 → lane (kept z0 ∷ kept z1 ∷ kept z2 ∷ kept z3 ∷ z4 ∷ z5 ∷ z6 ∷ z7 ∷ []) i p ≡ lane y (p % 8) (8 * (p / 8) + i)
turned_kept z0 z1 z2 z3 z4 z5 z6 z7 e0 e1 e2 e3 y s = rw (e0, e1, e2, e3) s

pub entries-columns-requires-clause-short : goal.entries-columns-requires-clause-short
entries-columns-requires-clause-short c =
    let u0 = unchanged w16 16 c.args.x0 _ c.well_formed.0 in
    let u1 = unchanged w16 16 c.args.x1 _ c.well_formed.1.0 in
    let u2 = unchanged w16 16 c.args.x2 _ c.well_formed.1.1.0 in
    let u3 = unchanged w16 16 c.args.x3 _ c.well_formed.1.1.1.0 in
    let s = small_kept c.args.x0 c.args.x1 c.args.x2 c.args.x3 u0 u1 u2 u3 c.requires.small in
    let l = low_kept c.args.x0 c.args.x1 c.args.x2 c.args.x3 u0 u1 u2 u3 c.requires.zeros in
    low_first_short (kept c.args.x0) (kept c.args.x1) (kept c.args.x2) (kept c.args.x3) s l

pub entries-sums-requires-clause-short : goal.entries-sums-requires-clause-short
entries-sums-requires-clause-short c =
    let u0 = unchanged w16 16 c.args.x0 _ c.well_formed.0 in
    let u1 = unchanged w16 16 c.args.x1 _ c.well_formed.1.0 in
    let u2 = unchanged w16 16 c.args.x2 _ c.well_formed.1.1.0 in
    let u3 = unchanged w16 16 c.args.x3 _ c.well_formed.1.1.1.0 in
    let s = small_kept c.args.x0 c.args.x1 c.args.x2 c.args.x3 u0 u1 u2 u3 c.requires.small in
    let l = low_kept c.args.x0 c.args.x1 c.args.x2 c.args.x3 u0 u1 u2 u3 c.requires.zeros in
    let r0 = unchanged w16 16 c.turned-rows.result.0 _ c.turned-rows.type_inv.1.1.0 in
    let r1 = unchanged w16 16 c.turned-rows.result.1 _ c.turned-rows.type_inv.1.1.1.0 in
    let r2 = unchanged w16 16 c.turned-rows.result.2 _ c.turned-rows.type_inv.1.1.1.1.0 in
    let r3 = unchanged w16 16 c.turned-rows.result.3 _ c.turned-rows.type_inv.1.1.1.1.1.0 in
    let t = turned_kept c.turned-rows.result.0 c.turned-rows.result.1 c.turned-rows.result.2 c.turned-rows.result.3 c.turned-rows.result.4 c.turned-rows.result.5 c.turned-rows.result.6 c.turned-rows.result.7 r0 r1 r2 r3 (c.entries-columns.result.0 ∷ c.entries-columns.result.1 ∷ c.entries-columns.result.2 ∷ c.entries-columns.result.3 ∷ c.entries-columns.result.4 ∷ c.entries-columns.result.5 ∷ c.entries-columns.result.6 ∷ c.entries-columns.result.7 ∷ []) c.turned-rows.ensures in
    low_second_short (kept c.args.x0) (kept c.args.x1) (kept c.args.x2) (kept c.args.x3) s l (c.entries-columns.result.0 ∷ c.entries-columns.result.1 ∷ c.entries-columns.result.2 ∷ c.entries-columns.result.3 ∷ c.entries-columns.result.4 ∷ c.entries-columns.result.5 ∷ c.entries-columns.result.6 ∷ c.entries-columns.result.7 ∷ []) (kept c.turned-rows.result.0) (kept c.turned-rows.result.1) (kept c.turned-rows.result.2) (kept c.turned-rows.result.3) c.turned-rows.result.4 c.turned-rows.result.5 c.turned-rows.result.6 c.turned-rows.result.7 c.entries-columns.ensures t

pub returns-clause-first : goal.returns-clause-first
returns-clause-first c v is_x =
    let u0 = unchanged w16 16 c.args.x0 _ c.well_formed.0 in
    let u1 = unchanged w16 16 c.args.x1 _ c.well_formed.1.0 in
    let u2 = unchanged w16 16 c.args.x2 _ c.well_formed.1.1.0 in
    let u3 = unchanged w16 16 c.args.x3 _ c.well_formed.1.1.1.0 in
    let s = small_kept c.args.x0 c.args.x1 c.args.x2 c.args.x3 u0 u1 u2 u3 c.requires.small in
    let l = low_kept c.args.x0 c.args.x1 c.args.x2 c.args.x3 u0 u1 u2 u3 c.requires.zeros in
    let r0 = unchanged w16 16 c.turned-rows.result.0 _ c.turned-rows.type_inv.1.1.0 in
    let r1 = unchanged w16 16 c.turned-rows.result.1 _ c.turned-rows.type_inv.1.1.1.0 in
    let r2 = unchanged w16 16 c.turned-rows.result.2 _ c.turned-rows.type_inv.1.1.1.1.0 in
    let r3 = unchanged w16 16 c.turned-rows.result.3 _ c.turned-rows.type_inv.1.1.1.1.1.0 in
    let t = turned_kept c.turned-rows.result.0 c.turned-rows.result.1 c.turned-rows.result.2 c.turned-rows.result.3 c.turned-rows.result.4 c.turned-rows.result.5 c.turned-rows.result.6 c.turned-rows.result.7 r0 r1 r2 r3 (c.entries-columns.result.0 ∷ c.entries-columns.result.1 ∷ c.entries-columns.result.2 ∷ c.entries-columns.result.3 ∷ c.entries-columns.result.4 ∷ c.entries-columns.result.5 ∷ c.entries-columns.result.6 ∷ c.entries-columns.result.7 ∷ []) c.turned-rows.ensures in
    low_chain (kept c.args.x0) (kept c.args.x1) (kept c.args.x2) (kept c.args.x3) s l (c.entries-columns.result.0 ∷ c.entries-columns.result.1 ∷ c.entries-columns.result.2 ∷ c.entries-columns.result.3 ∷ c.entries-columns.result.4 ∷ c.entries-columns.result.5 ∷ c.entries-columns.result.6 ∷ c.entries-columns.result.7 ∷ []) (kept c.turned-rows.result.0) (kept c.turned-rows.result.1) (kept c.turned-rows.result.2) (kept c.turned-rows.result.3) c.turned-rows.result.4 c.turned-rows.result.5 c.turned-rows.result.6 c.turned-rows.result.7 c.entries-columns.ensures t (c.entries-sums.result.0 ∷ c.entries-sums.result.1 ∷ c.entries-sums.result.2 ∷ c.entries-sums.result.3 ∷ c.entries-sums.result.4 ∷ c.entries-sums.result.5 ∷ c.entries-sums.result.6 ∷ c.entries-sums.result.7 ∷ []) (λ i p h g. search (rules, c.entries-sums.ensures i p h g))
    (λ i. i) (λ i h. omega (arith, h)) (λ i h. omega (arith, h)) (λ i k h g. omega (arith, h, g)) v (rows_kept c.args.x0 c.args.x1 c.args.x2 c.args.x3 u0 u1 u2 u3 (λ i. i) v is_x)

pub returns-clause-second : goal.returns-clause-second
returns-clause-second c v is_x =
    let u0 = unchanged w16 16 c.args.x0 _ c.well_formed.0 in
    let u1 = unchanged w16 16 c.args.x1 _ c.well_formed.1.0 in
    let u2 = unchanged w16 16 c.args.x2 _ c.well_formed.1.1.0 in
    let u3 = unchanged w16 16 c.args.x3 _ c.well_formed.1.1.1.0 in
    let s = small_kept c.args.x0 c.args.x1 c.args.x2 c.args.x3 u0 u1 u2 u3 c.requires.small in
    let l = low_kept c.args.x0 c.args.x1 c.args.x2 c.args.x3 u0 u1 u2 u3 c.requires.zeros in
    let r0 = unchanged w16 16 c.turned-rows.result.0 _ c.turned-rows.type_inv.1.1.0 in
    let r1 = unchanged w16 16 c.turned-rows.result.1 _ c.turned-rows.type_inv.1.1.1.0 in
    let r2 = unchanged w16 16 c.turned-rows.result.2 _ c.turned-rows.type_inv.1.1.1.1.0 in
    let r3 = unchanged w16 16 c.turned-rows.result.3 _ c.turned-rows.type_inv.1.1.1.1.1.0 in
    let t = turned_kept c.turned-rows.result.0 c.turned-rows.result.1 c.turned-rows.result.2 c.turned-rows.result.3 c.turned-rows.result.4 c.turned-rows.result.5 c.turned-rows.result.6 c.turned-rows.result.7 r0 r1 r2 r3 (c.entries-columns.result.0 ∷ c.entries-columns.result.1 ∷ c.entries-columns.result.2 ∷ c.entries-columns.result.3 ∷ c.entries-columns.result.4 ∷ c.entries-columns.result.5 ∷ c.entries-columns.result.6 ∷ c.entries-columns.result.7 ∷ []) c.turned-rows.ensures in
    low_chain (kept c.args.x0) (kept c.args.x1) (kept c.args.x2) (kept c.args.x3) s l (c.entries-columns.result.0 ∷ c.entries-columns.result.1 ∷ c.entries-columns.result.2 ∷ c.entries-columns.result.3 ∷ c.entries-columns.result.4 ∷ c.entries-columns.result.5 ∷ c.entries-columns.result.6 ∷ c.entries-columns.result.7 ∷ []) (kept c.turned-rows.result.0) (kept c.turned-rows.result.1) (kept c.turned-rows.result.2) (kept c.turned-rows.result.3) c.turned-rows.result.4 c.turned-rows.result.5 c.turned-rows.result.6 c.turned-rows.result.7 c.entries-columns.ensures t (c.entries-sums.result.0 ∷ c.entries-sums.result.1 ∷ c.entries-sums.result.2 ∷ c.entries-sums.result.3 ∷ c.entries-sums.result.4 ∷ c.entries-sums.result.5 ∷ c.entries-sums.result.6 ∷ c.entries-sums.result.7 ∷ []) (λ i p h g. search (rules, c.entries-sums.ensures i p h g))
    (λ i. 8 + i) (λ i h. omega (arith, h)) (λ i h. omega (arith, h)) (λ i k h g. omega (arith, h, g)) v (rows_kept c.args.x0 c.args.x1 c.args.x2 c.args.x3 u0 u1 u2 u3 (λ i. 8 + i) v is_x)
