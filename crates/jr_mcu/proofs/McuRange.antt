-- The DC coefficients of an MCU that is read with predictions of 0.
use Rattle.std.proofs.Common.{◌≡◌, ◌<◌, ◌≤◌, ◌*◌, ◌+◌, ℕ, zero, suc, Bool, true, false, cond, eqb, List, length, get_or, subst, sym, ap, arith, inl, inr}
use Rattle.std.specs.Prelude.{ℤ, pos, ◌+ℤ◌}
use Rattle.std.specs.List.{All}
use Rattle.std.proofs.lemmas.Bool.{cases_lt}
use Rattle.std.proofs.lemmas.Int.{ints}
use Rattle.jr_code.proofs.ValueLemmas.{Within, within_zero}
use Rattle.jr_head.specs.HeadValue.{HeadValue}
use Rattle.jr_head.specs.Geometry.{order_of}
use Rattle.jr_mcu.specs.Mcus.{block_of, component, prediction, no_predictions, predicted, Blocks, Mcus}
use Rattle.jr_mcu.specs.Shift.{IsInMcuRange, HaveFirstInMcuRange}
use Rattle.jr_mcu.proofs.Greater.{three_all}
use Rattle.jr_mcu.proofs.Ranges.{difference_within}

chosen : (P : ℤ → Type 0) (b : Bool) (x y : ℤ) → P x → P y → P (cond b x y)
chosen P true x y p q = p
chosen P false x y p q = q

-- a predicate that the first predictions and the DC coefficients before block n satisfy, the prediction of block n satisfies
prediction_has : (P : ℤ → Type 0) (h : HeadValue) (start : List ℤ) (zs : List (List ℤ)) (c n : ℕ) → ((c : ℕ) → P (get_or start c (pos 0))) → ((m : ℕ) → m < n → P (get_or (block_of zs m) 0 (pos 0)))
    → P (prediction h start zs c n)
prediction_has P h start zs c zero first each = first c
prediction_has P h start zs c (suc m) first each = chosen P (eqb (component h m) c) _ _ (each m (omega arith)) (prediction_has P h start zs c m first (λ k lt. each k (omega arith)))

none_has : (P : ℤ → Type 0) (c : ℕ) → P (pos 0) → P (get_or no_predictions c (pos 0))
none_has P zero p = p
none_has P (suc zero) p = p
none_has P (suc (suc zero)) p = p
none_has P (suc (suc (suc c))) p = p

-- one more difference
one_more : (n : ℕ) (p d : ℤ) → Within (2047 * n) p → Within 2047 d → Within (2047 * suc n) (p +ℤ d)
one_more n p d w v = (omega (arith, ints, w.0, v.0), omega (arith, ints, w.1, v.1))

wider : (n : ℕ) (x : ℤ) → Within (2047 * n) x → Within (2047 * suc n) x
wider n x w = (omega (arith, ints, w.0), omega (arith, ints, w.1))

-- the DC coefficients of the first n blocks
firsts_within : (h : HeadValue) (zs : List (List ℤ)) (all : List Bool) (b : Blocks h no_predictions zs all) (n : ℕ) → n ≤ length zs → (m : ℕ) → m < n → Within (2047 * n) (get_or (block_of zs m) 0 (pos 0))
firsts_within h zs all b zero few m lt = absurd (omega (arith, lt))
firsts_within h zs all b (suc n) few m lt =
    let before = firsts_within h zs all b n (omega (arith, few)) in
    elim (cases_lt m n) [
      | inl l ↦ wider n (get_or (block_of zs m) 0 (pos 0)) (before m l)
      | inr g ↦
          let e : n ≡ m = omega (arith, lt, g) in
          let x = b.each n (omega (arith, few)) in
          let p = prediction_has (Within (2047 * n)) h no_predictions zs (component h n) n (λ c. none_has (Within (2047 * n)) c (within_zero (2047 * n))) before in
          let first : (prediction h no_predictions zs (component h n) n) +ℤ x.difference ≡ get_or (block_of zs n) 0 (pos 0) = sym (ap (λ (z : List ℤ). get_or z 0 (pos 0)) x.values) in
          let here = one_more n (prediction h no_predictions zs (component h n) n) x.difference p (difference_within _ _ _ x.coded.is_first) in
          subst (λ (k : ℕ). Within (2047 * suc n) (get_or (block_of zs k) 0 (pos 0))) e (subst (Within (2047 * suc n)) first here)
    ]

in_range_of : (n : ℕ) (x : ℤ) → n ≤ 10 → Within (2047 * n) x → IsInMcuRange x
in_range_of n x few w = (omega (arith, ints, few, w.1), omega (arith, ints, few, w.0))

-- the DC coefficients of an MCU
pub firsts_in_mcu_range : (h : HeadValue) (zs : List (List ℤ)) (taken : List Bool) → length (order_of h) ≤ 10 → Mcus h no_predictions 1 zs taken → HaveFirstInMcuRange zs
firsts_in_mcu_range h zs taken few m n lt =
    let count : length zs ≤ 10 = omega (arith, few, m.0) in
    in_range_of (length zs) (get_or (block_of zs n) 0 (pos 0)) count (firsts_within h zs taken m.1 (length zs) (omega arith) n lt)

-- the predictions after an MCU
pub predicted_in_mcu_range : (h : HeadValue) (zs : List (List ℤ)) → HaveFirstInMcuRange zs → All IsInMcuRange (predicted h no_predictions zs)
predicted_in_mcu_range h zs firsts =
    let zero_in : IsInMcuRange (pos 0) = (omega (arith, ints), omega (arith, ints)) in
    let at : (c : ℕ) → IsInMcuRange (prediction h no_predictions zs c (length zs)) = λ c. prediction_has IsInMcuRange h no_predictions zs c (length zs) (λ k. none_has IsInMcuRange k zero_in) firsts in
    three_all IsInMcuRange _ _ _ (at 0) (at 1) (at 2)
