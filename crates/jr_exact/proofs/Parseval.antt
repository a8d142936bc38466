-- Both passes keep the sum of squares, but for a small part: so ideal values that are small have coefficients that are.
use Rattle.std.proofs.Common.{arith, refl, ◌≡◌, ℕ, zero, suc, ◌+◌, ◌*◌, ◌<◌, Bool, true, ◌&&◌, ℤ, pos, neg_ℤ, ◌+ℤ◌, ◌-ℤ◌, ◌*ℤ◌, ◌≤ℤ◌, int_le, unsigned_abs, ap, sym, ◌∙◌}
use Rattle.std.specs.Prelude.{◌==◌, if◌then◌else◌}
use Rattle.std.proofs.lemmas.Bool.{and_parts}
use Rattle.std.proofs.lemmas.Int.{ints, unsigned_abs-mul}
use lib.IntN.{*ℤ_comm}
use Rattle.jr_idct.specs.Matrix.{IsWithin, weight, row_sum, sum_below}
use Rattle.jr_idct.proofs.Energy.{pass_below, pass_at, square_is}
use Rattle.jr_idct.proofs.Integers.{times-sum, times_assoc, times_left_comm, times_le}
use Rattle.jr_idct.proofs.Passes.{below_eight}
use Rattle.jr_idct.proofs.Roundings.{column_sum}
use Rattle.jr_idct.proofs.Squares.{adds, sum-pos, two_products}
use Rattle.jr_idct.proofs.Sums.{same_sums, sum-times, sum_at_most, row_is_sum}
use Rattle.jr_idct.proofs.Whole.{product_within}

sum-plus : (k : ℕ) (f g : ℕ → ℤ) → sum_below k (λ j. f j +ℤ g j) ≡ sum_below k f +ℤ sum_below k g
unfolding sum_below
sum-plus zero f g = refl
sum-plus (suc k) f g = let e = sum-plus k f g in omega (arith, ints, e)

sum_zeros : (k : ℕ) → sum_below k (λ j. pos 0) ≡ pos 0
unfolding sum_below
sum_zeros zero = refl
sum_zeros (suc k) = let e = sum_zeros k in omega (arith, ints, e)

sum_swapped : (m k : ℕ) (f : ℕ → ℕ → ℤ) → sum_below m (λ i. sum_below k (λ j. f i j)) ≡ sum_below k (λ j. sum_below m (λ i. f i j))
unfolding sum_below
sum_swapped zero k f = sym (sum_zeros k)
sum_swapped (suc m) k f = ap (λ z. z +ℤ sum_below k (λ j. f m j)) (sum_swapped m k f) ∙ sym (sum-plus k (λ j. sum_below m (λ i. f i j)) (λ j. f m j))

pub sum_least : (k : ℕ) (f g : ℕ → ℤ) → ((j : ℕ) → j < k → f j ≤ℤ g j) → sum_below k f ≤ℤ sum_below k g
unfolding sum_below
sum_least zero f g h = omega (arith, ints)
sum_least (suc k) f g h =
    let i = sum_least k f g (λ j l. h j (omega (arith, l))) in
    let e = h k (omega arith) in
    omega (arith, ints, i, e)

square_of_sum : (k : ℕ) (f : ℕ → ℤ) → sum_below k f *ℤ sum_below k f ≡ sum_below k (λ i. sum_below k (λ j. f i *ℤ f j))
square_of_sum k f =
    let s : ℤ = sum_below k f in
    sym (sum-times s k f) ∙ same_sums k (λ i. s *ℤ f i) (λ i. sum_below k (λ j. f i *ℤ f j)) (λ i _. *ℤ_comm s (f i) ∙ sym (sum-times (f i) k f))

-- the sum of products of two columns
gram : ℕ → ℕ → ℤ
gram k l = sum_below 8 (λ r. weight r k *ℤ weight r l)

regrouped : (a x b y : ℤ) → a *ℤ x *ℤ (b *ℤ y) ≡ x *ℤ y *ℤ (a *ℤ b)
regrouped a x b y =
    times_assoc a x (b *ℤ y)
    ∙ ap (λ z. a *ℤ z) (times_left_comm x b y)
    ∙ sym (times_assoc a b (x *ℤ y))
    ∙ *ℤ_comm (a *ℤ b) (x *ℤ y)

-- the squares of the sums of all rows
module _ (y : ℕ → ℤ) where
  row_square : (r : ℕ) → row_sum r y *ℤ row_sum r y ≡ sum_below 8 (λ k. sum_below 8 (λ l. y k *ℤ y l *ℤ (weight r k *ℤ weight r l)))
  row_square r =
      ap (λ z. z *ℤ z) (sym (row_is_sum r y))
      ∙ square_of_sum 8 (λ k. weight r k *ℤ y k)
      ∙ same_sums 8 _ (λ k. sum_below 8 (λ l. y k *ℤ y l *ℤ (weight r k *ℤ weight r l)))
      (λ k _. same_sums 8 _ (λ l. y k *ℤ y l *ℤ (weight r k *ℤ weight r l)) (λ l _. regrouped (weight r k) (y k) (weight r l) (y l)))

  row_squares : sum_below 8 (λ r. row_sum r y *ℤ row_sum r y) ≡ sum_below 8 (λ k. sum_below 8 (λ l. y k *ℤ y l *ℤ gram k l))
  unfolding gram
  row_squares =
      same_sums 8 _ (λ r. sum_below 8 (λ k. sum_below 8 (λ l. y k *ℤ y l *ℤ (weight r k *ℤ weight r l)))) (λ r _. row_square r)
      ∙ sum_swapped 8 8 (λ r k. sum_below 8 (λ l. y k *ℤ y l *ℤ (weight r k *ℤ weight r l)))
      ∙ same_sums 8 _ (λ k. sum_below 8 (λ l. y k *ℤ y l *ℤ gram k l))
      (λ k _. sum_swapped 8 8 (λ r l. y k *ℤ y l *ℤ (weight r k *ℤ weight r l))
      ∙ same_sums 8 _ (λ l. y k *ℤ y l *ℤ gram k l) (λ l _. sum-times (y k *ℤ y l) 8 (λ r. weight r k *ℤ weight r l)))

-- 2 ^ 29 for a column with itself, and 0 for different ones
unit : ℕ → ℕ → ℤ
unit k l = if k == l then pos 536870912 else pos 0

rest : ℕ → ℕ → ℤ
rest k l = gram k l -ℤ unit k l

is_small : ℕ → ℕ → Bool
is_small k l = int_le (neg_ℤ (pos 65536)) (rest k l) && int_le (rest k l) (pos 65536)

rests_are_small : pass_below (λ k. pass_below (is_small k) 8) 8 ≡ true
unfolding is_small rest gram unit sum_below
rests_are_small = refl

from_test : (a b : ℤ) → int_le a b ≡ true → a ≤ℤ b
from_test a b e = grind (arith, ints, e)

rest_within : (k l : ℕ) → k < 8 → l < 8 → IsWithin 65536 (rest k l)
unfolding is_small
rest_within k l h g =
    let both = and_parts _ _ (pass_at (is_small k) 8 (pass_at (λ k. pass_below (is_small k) 8) 8 rests_are_small k h) l g) in
    (from_test _ _ both.0, from_test _ _ both.1)

abbrev pub square : ℤ → ℕ
square z = unsigned_abs z * unsigned_abs z

twice_within : (a b : ℤ) → IsWithin (square a + square b) (pos 2 *ℤ (a *ℤ b))
twice_within a b =
    let m = unsigned_abs-mul a b in
    let t = two_products (unsigned_abs a) (unsigned_abs b) in
    (omega (arith, ints, m, t), omega (arith, ints, m, t))

spread_out : (q : ℕ → ℕ) → adds 8 (λ k. adds 8 (λ l. (q k + q l) * 65536)) ≡ 1048576 * adds 8 q
unfolding adds
spread_out q = omega arith

module _ (y : ℕ → ℤ) where
  part : ℕ → ℕ → ℤ
  part k l = y k *ℤ y l *ℤ rest k l

  picked : (k : ℕ) → k < 8 → sum_below 8 (λ l. y k *ℤ y l *ℤ unit k l) ≡ pos 536870912 *ℤ (y k *ℤ y k)
  unfolding sum_below unit
  picked = below_eight (λ k. sum_below 8 (λ l. y k *ℤ y l *ℤ unit k l) ≡ pos 536870912 *ℤ (y k *ℤ y k))
      (omega (arith, ints)) (omega (arith, ints)) (omega (arith, ints)) (omega (arith, ints)) (omega (arith, ints)) (omega (arith, ints)) (omega (arith, ints)) (omega (arith, ints))

  split : (k l : ℕ) → y k *ℤ y l *ℤ gram k l ≡ y k *ℤ y l *ℤ unit k l +ℤ part k l
  unfolding rest part
  split k l =
      let is : gram k l ≡ unit k l +ℤ (gram k l -ℤ unit k l) = omega (arith, ints) in
      ap (λ z. y k *ℤ y l *ℤ z) is ∙ times-sum (y k *ℤ y l) (unit k l) (gram k l -ℤ unit k l)

  rows : sum_below 8 (λ r. row_sum r y *ℤ row_sum r y) ≡ pos 536870912 *ℤ sum_below 8 (λ k. y k *ℤ y k) +ℤ sum_below 8 (λ k. sum_below 8 (part k))
  rows =
      row_squares y
      ∙ same_sums 8 _ (λ k. pos 536870912 *ℤ (y k *ℤ y k) +ℤ sum_below 8 (part k))
      (λ k h. same_sums 8 _ (λ l. y k *ℤ y l *ℤ unit k l +ℤ part k l) (λ l _. split k l)
      ∙ sum-plus 8 (λ l. y k *ℤ y l *ℤ unit k l) (part k)
      ∙ ap (λ z. z +ℤ sum_below 8 (part k)) (picked k h))
      ∙ sum-plus 8 (λ k. pos 536870912 *ℤ (y k *ℤ y k)) (λ k. sum_below 8 (part k))
      ∙ ap (λ z. z +ℤ sum_below 8 (λ k. sum_below 8 (part k))) (sum-times (pos 536870912) 8 (λ k. y k *ℤ y k))

  part_within : (k l : ℕ) → k < 8 → l < 8 → IsWithin ((square (y k) + square (y l)) * 65536) (pos 2 *ℤ part k l)
  unfolding part
  part_within k l h g =
      let w = product_within (square (y k) + square (y l)) 65536 (pos 2 *ℤ (y k *ℤ y l)) (rest k l) (twice_within (y k) (y l)) (rest_within k l h g) in
      rw (times_assoc (pos 2) (y k *ℤ y l) (rest k l)) at w

  bounds : sum_below 8 (λ k. sum_below 8 (λ l. pos ((square (y k) + square (y l)) * 65536))) ≡ pos (1048576 * adds 8 (λ k. square (y k)))
  bounds =
      same_sums 8 _ (λ k. pos (adds 8 (λ l. (square (y k) + square (y l)) * 65536))) (λ k _. sum-pos 8 (λ l. (square (y k) + square (y l)) * 65536))
      ∙ sum-pos 8 (λ k. adds 8 (λ l. (square (y k) + square (y l)) * 65536))
      ∙ ap pos (spread_out (λ k. square (y k)))

  doubled : sum_below 8 (λ k. sum_below 8 (λ l. pos 2 *ℤ part k l)) ≡ pos 2 *ℤ sum_below 8 (λ k. sum_below 8 (part k))
  doubled =
      same_sums 8 _ (λ k. pos 2 *ℤ sum_below 8 (part k)) (λ k _. sum-times (pos 2) 8 (part k))
      ∙ sum-times (pos 2) 8 (λ k. sum_below 8 (part k))

  parts_within : IsWithin (1048576 * adds 8 (λ k. square (y k))) (pos 2 *ℤ sum_below 8 (λ k. sum_below 8 (part k)))
  parts_within =
      rw (bounds, doubled) at (sum_at_most 8 (λ k. sum_below 8 (λ l. pos 2 *ℤ part k l)) (λ k. sum_below 8 (λ l. pos ((square (y k) + square (y l)) * 65536)))
      (λ k h. sum_at_most 8 (λ l. pos 2 *ℤ part k l) (λ l. pos ((square (y k) + square (y l)) * 65536)) (λ l g. part_within k l h g)))

  squares_are : sum_below 8 (λ k. y k *ℤ y k) ≡ pos (adds 8 (λ k. square (y k)))
  squares_are = same_sums 8 _ (λ k. pos (square (y k))) (λ k _. square_is (y k)) ∙ sum-pos 8 (λ k. square (y k))

  -- one pass keeps the sum of squares, times 2 ^ 29, but for a thousandth
  pub kept : (pos 536346624 *ℤ sum_below 8 (λ k. y k *ℤ y k)) ≤ℤ sum_below 8 (λ r. row_sum r y *ℤ row_sum r y)
  kept = let w = parts_within in omega (arith, ints, rows, squares_are, w.0)

-- both passes
module _ (x : ℕ → ℤ) where
  unfoldable pub all_squares : ℤ
  all_squares = sum_below 8 (λ u. sum_below 8 (λ v. x (8 * v + u) *ℤ x (8 * v + u)))

  columns : sum_below 8 (λ u. sum_below 8 (λ r. column_sum x r u *ℤ column_sum x r u)) ≡ sum_below 8 (λ r. sum_below 8 (λ u. column_sum x r u *ℤ column_sum x r u))
  columns = sum_swapped 8 8 (λ u r. column_sum x r u *ℤ column_sum x r u)

  after_columns : (pos 536346624 *ℤ all_squares) ≤ℤ sum_below 8 (λ r. sum_below 8 (λ u. column_sum x r u *ℤ column_sum x r u))
  unfolding all_squares
  after_columns =
      rw (sum-times (pos 536346624) 8 (λ u. sum_below 8 (λ v. x (8 * v + u) *ℤ x (8 * v + u))), columns) at
      (sum_least 8 (λ u. pos 536346624 *ℤ sum_below 8 (λ v. x (8 * v + u) *ℤ x (8 * v + u))) (λ u. sum_below 8 (λ r. column_sum x r u *ℤ column_sum x r u)) (λ u _. kept (λ v. x (8 * v + u))))

  after_rows : (pos 536346624 *ℤ sum_below 8 (λ r. sum_below 8 (λ u. column_sum x r u *ℤ column_sum x r u))) ≤ℤ sum_below 8 (λ r. sum_below 8 (λ c. row_sum c (column_sum x r) *ℤ row_sum c (column_sum x r)))
  after_rows =
      rw (sum-times (pos 536346624) 8 (λ r. sum_below 8 (λ u. column_sum x r u *ℤ column_sum x r u))) at
      (sum_least 8 (λ r. pos 536346624 *ℤ sum_below 8 (λ u. column_sum x r u *ℤ column_sum x r u)) (λ r. sum_below 8 (λ c. row_sum c (column_sum x r) *ℤ row_sum c (column_sum x r))) (λ r _. kept (column_sum x r)))

  pub both_kept : (pos 536346624 *ℤ (pos 536346624 *ℤ all_squares)) ≤ℤ sum_below 8 (λ r. sum_below 8 (λ c. row_sum c (column_sum x r) *ℤ row_sum c (column_sum x r)))
  both_kept = let t = times_le 536346624 _ _ after_columns in omega (arith, ints, t, after_rows)
