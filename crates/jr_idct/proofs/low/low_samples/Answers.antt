use Rattle.std.proofs.Common.{rules, ◌≡◌, ℕ, ℤ, ◌+◌, ◌-◌, ◌*◌, ◌<◌, pos, List, inl, inr, [], ◌∷◌, slice_index, arith, subst, ap, ◌∙◌, w16}
use Rattle.std.proofs.Math.IntN.{◌*ℤ◌}
use Rattle.std.proofs.lemmas.Bool.{cases_lt}
use Rattle.jr_base.specs.declared.quantisers.TheConstants.{MAX_PRODUCT}
use Rattle.jr_idct.specs.Lanes.{lane}
use Rattle.jr_idct.specs.Matrix.{at, IsWithin}
use Rattle.jr_idct.specs.Transform.{IsLow}
use Rattle.jr_idct.proofs.Flat.{nothing}
use Rattle.jr_idct.proofs.LowRows.{four_small, four_low, four_first, four_second}
use Rattle.jr_idct.proofs.Vectors.{unchanged}
use Rattle.jr_idct.proofs.low.low_samples.Goals as goal

low_products : (z : List ℤ) (q : List ℕ) → IsLow (at z) → IsLow (λ n. at z n *ℤ pos (slice_index q n))
low_products z q low = (
  λ n l h. ap (λ x. x *ℤ pos (slice_index q n)) (low.0 n l h) ∙ nothing (slice_index q n),
  λ n h l. ap (λ x. x *ℤ pos (slice_index q n)) (low.1 n h l) ∙ nothing (slice_index q n),
)

pub rows_of-x-requires : goal.rows_of-x-requires
rows_of-x-requires c = record {
  small_a = λ n h. rw (c.small_products-products_a.ensures n h) (c.requires.small_a n h);
  small_b = λ n h. rw (c.small_products-products_b.ensures n h) (c.requires.small_b n h);
}

pub low_rows-rows-requires : goal.low_rows-rows-requires
low_rows-rows-requires c =
    let u0 = unchanged w16 16 c.rows_of-x.result.0 _ c.rows_of-x.type_inv.1.1.0 in
    let u1 = unchanged w16 16 c.rows_of-x.result.1 _ c.rows_of-x.type_inv.1.1.1.0 in
    let u2 = unchanged w16 16 c.rows_of-x.result.2 _ c.rows_of-x.type_inv.1.1.1.1.0 in
    let u3 = unchanged w16 16 c.rows_of-x.result.3 _ c.rows_of-x.type_inv.1.1.1.1.1.0 in
    let a : ℕ → ℤ = λ n. at c.args.a.now n *ℤ pos (slice_index c.args.factors.now n) in
    let b : ℕ → ℤ = λ n. at c.args.b.now n *ℤ pos (slice_index c.args.factors.now n) in
    let is_a : (r k : ℕ) → r < 8 → k < 8 → lane (c.rows_of-x.result.0 ∷ c.rows_of-x.result.1 ∷ c.rows_of-x.result.2 ∷ c.rows_of-x.result.3 ∷ c.rows_of-x.result.4 ∷ c.rows_of-x.result.5 ∷ c.rows_of-x.result.6 ∷ c.rows_of-x.result.7 ∷ []) r k ≡ a (8 * r + k) = λ r k h g. c.rows_of-x.ensures.first r k h g ∙ c.small_products-products_a.ensures (8 * r + k) (omega (arith, h, g)) in
    let is_b : (r k : ℕ) → r < 8 → k < 8 → lane (c.rows_of-x.result.0 ∷ c.rows_of-x.result.1 ∷ c.rows_of-x.result.2 ∷ c.rows_of-x.result.3 ∷ c.rows_of-x.result.4 ∷ c.rows_of-x.result.5 ∷ c.rows_of-x.result.6 ∷ c.rows_of-x.result.7 ∷ []) r (8 + k) ≡ b (8 * r + k) = λ r k h g. c.rows_of-x.ensures.second r k h g ∙ c.small_products-products_b.ensures (8 * r + k) (omega (arith, h, g)) in
    let low_a : IsLow a = low_products c.args.a.now c.args.factors.now c.requires.low_a in
    let low_b : IsLow b = low_products c.args.b.now c.args.factors.now c.requires.low_b in
    let small : (k p : ℕ) → k < 8 → p < 16 → IsWithin MAX_PRODUCT (lane (c.rows_of-x.result.0 ∷ c.rows_of-x.result.1 ∷ c.rows_of-x.result.2 ∷ c.rows_of-x.result.3 ∷ c.rows_of-x.result.4 ∷ c.rows_of-x.result.5 ∷ c.rows_of-x.result.6 ∷ c.rows_of-x.result.7 ∷ []) k p) =
    λ k p h g. elim (cases_lt p 8) [
      | inl l ↦ rw (is_a k p h l) (c.requires.small_a (8 * k + p) (omega (arith, h, l)))
      | inr o ↦
          let e : 8 + (p - 8) ≡ p = omega (arith, o) in
          subst (λ p. IsWithin MAX_PRODUCT (lane (c.rows_of-x.result.0 ∷ c.rows_of-x.result.1 ∷ c.rows_of-x.result.2 ∷ c.rows_of-x.result.3 ∷ c.rows_of-x.result.4 ∷ c.rows_of-x.result.5 ∷ c.rows_of-x.result.6 ∷ c.rows_of-x.result.7 ∷ []) k p)) e
          (rw (is_b k (p - 8) h (omega (arith, o, g))) (c.requires.small_b (8 * k + (p - 8)) (omega (arith, h, o, g))))
    ] in
    record {
      small = rw (u0, u1, u2, u3) (four_small c.rows_of-x.result.0 c.rows_of-x.result.1 c.rows_of-x.result.2 c.rows_of-x.result.3 c.rows_of-x.result.4 c.rows_of-x.result.5 c.rows_of-x.result.6 c.rows_of-x.result.7 a b is_a is_b low_a low_b small);
      zeros = rw (u0, u1, u2, u3) (four_low c.rows_of-x.result.0 c.rows_of-x.result.1 c.rows_of-x.result.2 c.rows_of-x.result.3 c.rows_of-x.result.4 c.rows_of-x.result.5 c.rows_of-x.result.6 c.rows_of-x.result.7 a b is_a is_b low_a low_b);
    }

pub returns-clause-first : goal.returns-clause-first
returns-clause-first c r k h g =
    let u0 = unchanged w16 16 c.rows_of-x.result.0 _ c.rows_of-x.type_inv.1.1.0 in
    let u1 = unchanged w16 16 c.rows_of-x.result.1 _ c.rows_of-x.type_inv.1.1.1.0 in
    let u2 = unchanged w16 16 c.rows_of-x.result.2 _ c.rows_of-x.type_inv.1.1.1.1.0 in
    let u3 = unchanged w16 16 c.rows_of-x.result.3 _ c.rows_of-x.type_inv.1.1.1.1.1.0 in
    let a : ℕ → ℤ = λ n. at c.args.a.now n *ℤ pos (slice_index c.args.factors.now n) in
    let b : ℕ → ℤ = λ n. at c.args.b.now n *ℤ pos (slice_index c.args.factors.now n) in
    let is_a : (r k : ℕ) → r < 8 → k < 8 → lane (c.rows_of-x.result.0 ∷ c.rows_of-x.result.1 ∷ c.rows_of-x.result.2 ∷ c.rows_of-x.result.3 ∷ c.rows_of-x.result.4 ∷ c.rows_of-x.result.5 ∷ c.rows_of-x.result.6 ∷ c.rows_of-x.result.7 ∷ []) r k ≡ a (8 * r + k) = λ r k h g. c.rows_of-x.ensures.first r k h g ∙ c.small_products-products_a.ensures (8 * r + k) (omega (arith, h, g)) in
    let is_b : (r k : ℕ) → r < 8 → k < 8 → lane (c.rows_of-x.result.0 ∷ c.rows_of-x.result.1 ∷ c.rows_of-x.result.2 ∷ c.rows_of-x.result.3 ∷ c.rows_of-x.result.4 ∷ c.rows_of-x.result.5 ∷ c.rows_of-x.result.6 ∷ c.rows_of-x.result.7 ∷ []) r (8 + k) ≡ b (8 * r + k) = λ r k h g. c.rows_of-x.ensures.second r k h g ∙ c.small_products-products_b.ensures (8 * r + k) (omega (arith, h, g)) in
    let low_a : IsLow a = low_products c.args.a.now c.args.factors.now c.requires.low_a in
    let low_b : IsLow b = low_products c.args.b.now c.args.factors.now c.requires.low_b in
    let row = c.low_rows-rows.ensures.first a (rw (u0, u1, u2, u3) (four_first c.rows_of-x.result.0 c.rows_of-x.result.1 c.rows_of-x.result.2 c.rows_of-x.result.3 c.rows_of-x.result.4 c.rows_of-x.result.5 c.rows_of-x.result.6 c.rows_of-x.result.7 a b is_a is_b low_a low_b)) r k h g in
    search (rules, c.gathered-first.ensures (8 * r + k) (omega (arith, h, g)), row)

pub returns-clause-second : goal.returns-clause-second
returns-clause-second c r k h g =
    let u0 = unchanged w16 16 c.rows_of-x.result.0 _ c.rows_of-x.type_inv.1.1.0 in
    let u1 = unchanged w16 16 c.rows_of-x.result.1 _ c.rows_of-x.type_inv.1.1.1.0 in
    let u2 = unchanged w16 16 c.rows_of-x.result.2 _ c.rows_of-x.type_inv.1.1.1.1.0 in
    let u3 = unchanged w16 16 c.rows_of-x.result.3 _ c.rows_of-x.type_inv.1.1.1.1.1.0 in
    let a : ℕ → ℤ = λ n. at c.args.a.now n *ℤ pos (slice_index c.args.factors.now n) in
    let b : ℕ → ℤ = λ n. at c.args.b.now n *ℤ pos (slice_index c.args.factors.now n) in
    let is_a : (r k : ℕ) → r < 8 → k < 8 → lane (c.rows_of-x.result.0 ∷ c.rows_of-x.result.1 ∷ c.rows_of-x.result.2 ∷ c.rows_of-x.result.3 ∷ c.rows_of-x.result.4 ∷ c.rows_of-x.result.5 ∷ c.rows_of-x.result.6 ∷ c.rows_of-x.result.7 ∷ []) r k ≡ a (8 * r + k) = λ r k h g. c.rows_of-x.ensures.first r k h g ∙ c.small_products-products_a.ensures (8 * r + k) (omega (arith, h, g)) in
    let is_b : (r k : ℕ) → r < 8 → k < 8 → lane (c.rows_of-x.result.0 ∷ c.rows_of-x.result.1 ∷ c.rows_of-x.result.2 ∷ c.rows_of-x.result.3 ∷ c.rows_of-x.result.4 ∷ c.rows_of-x.result.5 ∷ c.rows_of-x.result.6 ∷ c.rows_of-x.result.7 ∷ []) r (8 + k) ≡ b (8 * r + k) = λ r k h g. c.rows_of-x.ensures.second r k h g ∙ c.small_products-products_b.ensures (8 * r + k) (omega (arith, h, g)) in
    let low_a : IsLow a = low_products c.args.a.now c.args.factors.now c.requires.low_a in
    let low_b : IsLow b = low_products c.args.b.now c.args.factors.now c.requires.low_b in
    let row = c.low_rows-rows.ensures.second b (rw (u0, u1, u2, u3) (four_second c.rows_of-x.result.0 c.rows_of-x.result.1 c.rows_of-x.result.2 c.rows_of-x.result.3 c.rows_of-x.result.4 c.rows_of-x.result.5 c.rows_of-x.result.6 c.rows_of-x.result.7 a b is_a is_b low_a low_b)) r k h g in
    search (rules, c.gathered-second.ensures (8 * r + k) (omega (arith, h, g)), row)
