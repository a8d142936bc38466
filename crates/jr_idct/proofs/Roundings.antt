-- The error of the roundings of both passes.
use Rattle.std.proofs.Common.{arith, ◌≡◌, ℕ, ◌+◌, ◌*◌, ◌<◌, pos, ◌+ℤ◌, ◌-ℤ◌, ◌*ℤ◌, ℤ, ap, sym, ◌∙◌}
use Rattle.std.proofs.lemmas.Int.{ints}
use Rattle.jr_idct.specs.Matrix.{IsWithin, weight, row_sum, sum_below, descale, pass, row_weight}
use Rattle.jr_idct.specs.Transform.{column_pass, value_of}
use Rattle.jr_idct.proofs.FloorLaws.{floor_below, floor_above}
use Rattle.jr_idct.proofs.Passes.{row_sum_within}
use Rattle.jr_idct.proofs.Sums.{same_sums, sum-times, sum-minus, row_is_sum}
use Rattle.jr_idct.proofs.Integers.{times-minus, times_left_comm}

-- a descaled sum, times its power of 2, is within half of that power of the sum
first_near : (s : ℤ) → IsWithin 1024 (pos 2048 *ℤ descale 11 s -ℤ s)
first_near s =
    let l = floor_below (s +ℤ pos 1024) 2048 (omega arith) in
    let h = floor_above (s +ℤ pos 1024) 2048 (omega arith) in
    (omega (arith, ints, l, h), omega (arith, ints, l, h))

pub second_near : (s : ℤ) → IsWithin 131072 (pos 262144 *ℤ descale 18 s -ℤ s)
second_near s =
    let l = floor_below (s +ℤ pos 131072) 262144 (omega arith) in
    let h = floor_above (s +ℤ pos 131072) 262144 (omega arith) in
    (omega (arith, ints, l, h), omega (arith, ints, l, h))

-- the sum of column u before descaling
abbrev pub column_sum : (ℕ → ℤ) → ℕ → ℕ → ℤ
column_sum x r u = row_sum r (λ v. x (8 * v + u))

term : (a w s : ℤ) → a *ℤ (pos 2048 *ℤ w -ℤ s) ≡ pos 2048 *ℤ (a *ℤ w) -ℤ a *ℤ s
term a w s = times-minus a (pos 2048 *ℤ w) s ∙ ap (λ z. z -ℤ a *ℤ s) (times_left_comm a (pos 2048) w)

difference : (c : ℕ) (w s : ℕ → ℤ) → row_sum c (λ u. pos 2048 *ℤ w u -ℤ s u) ≡ pos 2048 *ℤ row_sum c w -ℤ row_sum c s
difference c w s =
    sym (row_is_sum c (λ u. pos 2048 *ℤ w u -ℤ s u))
    ∙ same_sums 8 _ (λ u. pos 2048 *ℤ (weight c u *ℤ w u) -ℤ weight c u *ℤ s u) (λ u _. term (weight c u) (w u) (s u))
    ∙ sum-minus 8 (λ u. pos 2048 *ℤ (weight c u *ℤ w u)) (λ u. weight c u *ℤ s u)
    ∙ ap (λ z. z -ℤ sum_below 8 (λ u. weight c u *ℤ s u)) (sum-times (pos 2048) 8 (λ u. weight c u *ℤ w u))
    ∙ ap (λ z. pos 2048 *ℤ z -ℤ sum_below 8 (λ u. weight c u *ℤ s u)) (row_is_sum c w)
    ∙ ap (λ z. pos 2048 *ℤ row_sum c w -ℤ z) (row_is_sum c s)

-- 2 ^ 18 times a value is within 2 ^ 17 of the sum of the second pass
abbrev pub SecondIsNear : Type 0
SecondIsNear = (x : ℕ → ℤ) (r c : ℕ) → IsWithin 131072 (pos 262144 *ℤ value_of x r c -ℤ row_sum c (λ u. column_pass x u r))

-- 2 ^ 29 times a value is within 0.617 times 2 ^ 29 of the sum of both passes without rounding
pub roundings : SecondIsNear → (x : ℕ → ℤ) (r c : ℕ) → r < 8 → c < 8 → IsWithin 331118592 (pos 536870912 *ℤ value_of x r c -ℤ row_sum c (column_sum x r))
unfolding pass
roundings second_is_near x r c h g =
    let w : ℕ → ℤ = λ u. column_pass x u r in
    let s : ℕ → ℤ = column_sum x r in
    let first = row_sum_within 1024 (λ u. pos 2048 *ℤ w u -ℤ s u) (λ u _. first_near (s u)) c g in
    let split = difference c w s in
    let second = second_is_near x r c in
    together (value_of x r c) (row_sum c w) (row_sum c s) (row_sum c (λ u. pos 2048 *ℤ w u -ℤ s u)) first split second
  where
    together : (y a b d : ℤ) → IsWithin (row_weight * 1024) d → d ≡ pos 2048 *ℤ a -ℤ b → IsWithin 131072 (pos 262144 *ℤ y -ℤ a) → IsWithin 331118592 (pos 536870912 *ℤ y -ℤ b)
    together y a b d f e s = (omega (arith, ints, f, e, s), omega (arith, ints, f, e, s))
