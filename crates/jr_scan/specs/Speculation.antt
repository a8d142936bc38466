-- MCUs of an interval that are read before it is known that one starts where they start.
use Rattle.std.specs.Prelude.{◌≡◌, ℕ, ◌+◌, ◌-◌, ◌*◌, ◌<◌, ◌≤◌, Bool, List, length, take, drop, ℤ, slice_index_or}
use Rattle.jr_code.specs.Bits.{bits}
use Rattle.jr_head.specs.Geometry.{order_of}
use Rattle.jr_scan.specs.declared.speculated.Speculated.{Speculated}
use Rattle.jr_scan.specs.declared.place.Place.{Place}
use Rattle.jr_scan.specs.declared.place.RunEnd.TheVariants.{AllRead}
use Rattle.jr_scan.specs.IntervalValue.{IntervalValue}
use Rattle.jr_mcu.specs.Mcus.{TakesMcu, no_predictions, predicted}
use Rattle.jr_mcu.specs.Shift.{HaveFirstInMcuRange}
use Rattle.jr_scan.specs.Run.{run_from, IsRun}

-- a bit, where each component is predicted to be 0
abbrev pub unpredicted : ℕ → Place
unpredicted bit = record { bit = bit; predictions = no_predictions }

-- one MCU with these blocks, starting at a bit with a prediction of 0 for each component
pub record IsSpeculated (i : IntervalValue) (mcu : Speculated) (zs : List (List ℤ)) : Type 0 where
  pub within : mcu.to.bit ≤ 8 * length i.bytes
  pub run : IsRun (run_from i (unpredicted mcu.from) 1) zs mcu.to AllRead
  pub firsts : HaveFirstInMcuRange zs

-- the number of an interval, MCUs of it, and the blocks of each, after which others may follow that mean nothing; no
-- blocks at all if none are kept
pub record SpeculationValue : Type 0 where
  pub number : ℕ
  pub mcus : List Speculated
  pub blocks : List (List ℤ)

abbrev pub KeepsBlocks : SpeculationValue → Type 0
KeepsBlocks g = 0 < length g.blocks

-- the blocks of MCU k
abbrev pub blocks_at : IntervalValue → SpeculationValue → ℕ → List (List ℤ)
blocks_at i g k = let per = length (order_of i.head) in take per (drop (k * per) g.blocks)

-- MCU k is one of the interval, with the blocks that are kept, if any are
pub record IsMcuOf (i : IntervalValue) (g : SpeculationValue) (k : ℕ) (mcu : Speculated) : Type 0 where
  pub zs : List (List ℤ)
  pub is : IsSpeculated i mcu zs
  pub kept : KeepsBlocks g → blocks_at i g k ≡ zs

-- a speculative read of this interval: each of its MCUs is one of the interval, whatever bit it starts at
pub record IsSpeculationOf (i : IntervalValue) (g : SpeculationValue) : Type 0 where
  pub number : g.number ≡ i.number
  pub space : KeepsBlocks g → length g.mcus * length (order_of i.head) ≤ length g.blocks
  pub each : (k : ℕ) (d : Speculated) → k < length g.mcus → IsMcuOf i g k (slice_index_or g.mcus k d)

-- old is the bits of the next MCU, read with predictions of 0, followed by new; its blocks are kept, if any are
pub record TakesNext (i : IntervalValue) (g : SpeculationValue) (predictions : List ℤ) (old new : List Bool) : Type 0 where
  pub zs : List (List ℤ)
  pub taken : TakesMcu i.head no_predictions zs old new
  pub predicted_are : predictions ≡ predicted i.head no_predictions zs
  pub space : KeepsBlocks g → (length g.mcus + 1) * length (order_of i.head) ≤ length g.blocks
  pub kept : KeepsBlocks g → blocks_at i g (length g.mcus) ≡ zs

-- bits with which an interval's bits end
abbrev pub AreLastBits : IntervalValue → List Bool → Type 0
AreLastBits i left = left ≡ drop (8 * length i.bytes - length left) (bits i.bytes)
