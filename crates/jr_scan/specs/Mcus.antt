-- What of its MCUs the bits of an interval hold (T.81, E.1.4 and F.2.1.3.1).
use Rattle.std.specs.Prelude.{◌≡◌, ℕ, ◌+◌, ◌*◌, ◌<◌, ◌≤◌, Bool, true, false, List, ◌++◌, length, drop, ℤ}
use Rattle.jr_code.specs.Bits.{bits}
use Rattle.jr_head.specs.Geometry.{order_of}
use Rattle.jr_mcu.specs.Mcus.{no_predictions, Mcus}
use Rattle.jr_scan.specs.IntervalValue.{IntervalValue}

-- the interval's bits are those of its MCUs, and fewer than eight more
pub record Decodes (i : IntervalValue) (zs : List (List ℤ)) : Type 0 where
  pub taken : List Bool
  pub padding : List Bool
  pub mcus : Mcus i.head no_predictions i.mcus zs taken
  pub short : length padding < 8
  pub spelled : bits i.bytes ≡ taken ++ padding

-- some blocks are the interval's decoding
abbrev pub HasDecoding : IntervalValue → Type 0
HasDecoding i = (zs : List (List ℤ)) × Decodes i zs

-- no blocks are the interval's decoding
abbrev pub HasNoDecoding : IntervalValue → Type 0
HasNoDecoding i = (zs : List (List ℤ)) → Decodes i zs → ⊥

-- whether the interval has a decoding
abbrev pub ReportsSound : Bool → IntervalValue → Type 0
ReportsSound true i = HasDecoding i
ReportsSound false i = HasNoDecoding i

-- the interval's bits begin with those of its first k MCUs
pub record Front (i : IntervalValue) (k : ℕ) (zs : List (List ℤ)) : Type 0 where
  pub at_most : k ≤ i.mcus
  pub taken : List Bool
  pub rest : List Bool
  pub mcus : Mcus i.head no_predictions k zs taken
  pub spelled : bits i.bytes ≡ taken ++ rest

-- the prefix of the greatest number of whole MCUs
pub record LongestFront (i : IntervalValue) (k : ℕ) (zs : List (List ℤ)) : Type 0 where
  pub front : Front i k zs
  pub longest : (j : ℕ) (ys : List (List ℤ)) → Front i j ys → j ≤ k

-- the interval's bits begin with k whole MCUs, and with no more
abbrev pub HasLongestFront : IntervalValue → ℕ → Type 0
HasLongestFront i k = (zs : List (List ℤ)) × LongestFront i k zs

-- the data units of the first k MCUs of an interval
abbrev pub units_before : IntervalValue → ℕ → ℕ
units_before i k = k * length (order_of i.head)

-- the interval's bits begin with the blocks of its first MCUs, and these are those starting at MCU `first`
pub record AreBlocks (i : IntervalValue) (first mcus : ℕ) (ys : List (List ℤ)) : Type 0 where
  pub all : List (List ℤ)
  pub front : Front i (first + mcus) all
  pub last : ys ≡ drop (units_before i first) all
