-- Values that no image of 8-bit samples has (T.81, A.3.1, A.3.3 and A.3.4).
use Rattle.std.specs.Prelude.{◌≡◌, ℕ, ◌+◌, ◌*◌, ◌/◌, ◌<◌, List, length, take, drop, ℤ, pos, unsigned_abs, slice_index_or}
use Rattle.jr_head.specs.HeadValue.{HeadValue}
use Rattle.jr_head.specs.Geometry.{order_of, quantiser_of}
use Rattle.jr_cut.specs.declared.file_segments.CodedSpan.{CodedSpan}
use Rattle.jr_mcu.specs.Mcus.{block_of}
use Rattle.jr_scan.specs.IntervalValue.{IntervalValue}
use Rattle.jr_scan.specs.Mcus.{LongestFront}
use Rattle.jr_damage.specs.declared.doubtful.DoubtfulMcu.{DoubtfulMcu}
use Rattle.jr_damage.specs.declared.doubtful.McuBits.{McuBits}
use Rattle.jr_damage.specs.Lines.{first_mcu_of}
use Rattle.jr_damage.specs.Fronts.{FrontTo}
use Rattle.jr_damage.specs.Offsets.{BeginsByte}

-- The transform keeps the norm of a data unit: that of 64 samples from -128 to 127 is at most 1024, so no coefficient exceeds 1024.
-- A quantised value times its step differs from the coefficient by less than a step, however it was rounded.
abbrev pub MAX_COEFFICIENT : ℕ
MAX_COEFFICIENT = 1024

abbrev pub IsDoubtful : ℤ → ℕ → Type 0
IsDoubtful value step = MAX_COEFFICIENT + step < unsigned_abs value * step

-- a data unit has such a value, by the steps of its quantiser
abbrev pub HasDoubtful : List ℕ → List ℤ → Type 0
HasDoubtful quantiser z = (k : ℕ) × (k < 64) × IsDoubtful (slice_index_or z k (pos 0)) (slice_index_or quantiser k 0)

-- one of the data units of an MCU does
abbrev pub IsDoubtfulMcu : HeadValue → List (List ℤ) → Type 0
IsDoubtfulMcu h units = (u : ℕ) × (u < length (order_of h)) × HasDoubtful (quantiser_of h (slice_index_or (order_of h) u 0)) (block_of units u)

-- the data units of MCU m
abbrev pub mcu_of : HeadValue → List (List ℤ) → ℕ → List (List ℤ)
mcu_of h zs m = let per = length (order_of h) in take per (drop (m * per) zs)

-- none of the first k MCUs is doubtful
abbrev pub NoneDoubtful : HeadValue → List (List ℤ) → ℕ → Type 0
NoneDoubtful h zs k = (m : ℕ) → m < k → IsDoubtfulMcu h (mcu_of h zs m) → ⊥

-- an interval's first doubtful MCU, and its bits
pub record IsFirstDoubtful (i : IntervalValue) (m : McuBits) : Type 0 where
  pub blocks : List (List ℤ)
  pub earlier : List (List ℤ)
  pub before : FrontTo i m.number earlier m.from
  pub up_to : FrontTo i (m.number + 1) blocks m.to
  pub is : IsDoubtfulMcu i.head (mcu_of i.head blocks m.number)
  pub first : NoneDoubtful i.head blocks m.number

-- no MCU of an interval's longest prefix is doubtful
pub record HasNoDoubtful (i : IntervalValue) : Type 0 where
  pub mcus : ℕ
  pub blocks : List (List ℤ)
  pub front : LongestFront i mcus blocks
  pub none : NoneDoubtful i.head blocks mcus

-- what is reported of it: its number in the scan, and the bytes of the file that have its bits
pub record IsDoubtOf (i : IntervalValue) (file : List ℕ) (span : CodedSpan) (d : DoubtfulMcu) : Type 0 where
  pub bits : McuBits
  pub is : IsFirstDoubtful i bits
  pub interval : d.interval ≡ i.number
  pub mcu : d.mcu ≡ first_mcu_of i.head i.number + bits.number
  pub start : BeginsByte file span i.bytes (bits.from / 8) d.bytes.start
  pub end : BeginsByte file span i.bytes ((bits.to + 7) / 8) d.bytes.end
