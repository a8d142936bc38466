-- Differences count from a prediction (T.81, F.1.1.5.1): the same bits, with other predictions, give DC coefficients
-- that are greater by the same numbers.
use Rattle.std.specs.Prelude.{◌≡◌, ℕ, ◌<◌, List, ◌∷◌, length, ℤ, pos, neg_ℤ, ◌+ℤ◌, ◌≤ℤ◌, slice_index_or}
use Rattle.jr_head.specs.HeadValue.{HeadValue}
use Rattle.jr_mcu.specs.Block.{IsInDcRange}
use Rattle.jr_mcu.specs.Mcus.{component, block_of}

-- the amount for component c
abbrev pub of_component : List ℤ → ℕ → ℤ
of_component by c = slice_index_or by c (pos 0)

-- the predictions q are greater than p, each by the amount for its component
abbrev pub AreGreater : List ℤ → List ℤ → List ℤ → Type 0
AreGreater by p q = (c : ℕ) → c < 3 → of_component q c ≡ of_component p c +ℤ of_component by c

-- the block y is z, but for its DC coefficient, which is greater by d
pub record IsShifted (d : ℤ) (z y : List ℤ) : Type 0 where
  pub first : ℤ
  pub others : List ℤ
  pub was : z ≡ first ∷ others
  pub is : y ≡ (first +ℤ d) ∷ others

-- the blocks ys are zs, each shifted by the amount for its component
pub record AreShifted (h : HeadValue) (by : List ℤ) (zs ys : List (List ℤ)) : Type 0 where
  pub count : length ys ≡ length zs
  pub each : (n : ℕ) → n < length zs → IsShifted (of_component by (component h n)) (block_of zs n) (block_of ys n)

-- sixteen bits hold the DC coefficients
abbrev pub HaveFirstInRange : List (List ℤ) → Type 0
HaveFirstInRange zs = (n : ℕ) → n < length zs → IsInDcRange (slice_index_or (block_of zs n) 0 (pos 0))

-- the range of a DC coefficient of one MCU whose predictions are 0: an MCU has ten data units or fewer (B.2.3), each
-- with a difference of at most 2047 (F.1.2.1)
abbrev pub IsInMcuRange : ℤ → Type 0
IsInMcuRange z = (neg_ℤ (pos 20470) ≤ℤ z) × (z ≤ℤ pos 20470)

abbrev pub HaveFirstInMcuRange : List (List ℤ) → Type 0
HaveFirstInMcuRange zs = (n : ℕ) → n < length zs → IsInMcuRange (slice_index_or (block_of zs n) 0 (pos 0))

-- sixteen bits hold the sum of such a number and a number in the range of an MCU
abbrev pub IsSmall : ℤ → Type 0
IsSmall z = (neg_ℤ (pos 12297) ≤ℤ z) × (z ≤ℤ pos 12297)
