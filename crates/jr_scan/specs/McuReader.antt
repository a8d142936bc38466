-- A reader of whole MCUs, and what it has read.
use Rattle.std.specs.Prelude.{◌≡◌, ℕ, ◌<◌, ◌≤◌, ◌^◌, Bool, List, length, ◌⊎◌, ℤ}
use Rattle.std.specs.List.{All}
use Rattle.jr_head.specs.Geometry.{order_of, IsValid}
use Rattle.jr_scan.specs.declared.place.Place.{Place}
use Rattle.jr_scan.specs.declared.place.RunEnd.TheVariants.{AllRead}
use Rattle.jr_mcu.specs.Block.{IsInDcRange}
use Rattle.jr_scan.specs.IntervalValue.{IntervalValue}
use Rattle.jr_scan.specs.Run.{RunOf, whole_run, run_from, left_at, HasNoMcu, IsRun}

-- a reader: its run, the number of its MCUs that it has read, and the position after them
pub record McuReaderValue : Type 0 where
  pub run : RunOf
  pub mcu : ℕ
  pub place : Place

-- the number of blocks of an MCU
abbrev pub per_mcu : McuReaderValue → ℕ
per_mcu r = length (order_of r.run.interval.head)

-- the blocks that a reader has read: those of its run's first MCUs, up to its position
pub record HasRead (r : McuReaderValue) (zs : List (List ℤ)) : Type 0 where
  pub few : r.mcu ≤ r.run.mcus
  pub run : IsRun (run_from r.run.interval r.run.from r.mcu) zs r.place AllRead

-- all MCUs are read, or no whole one follows
abbrev pub HasEnded : McuReaderValue → Type 0
HasEnded r = (r.mcu ≡ r.run.mcus) ⊎ HasNoMcu r.run.interval r.place

-- these blocks are those that a reader of a whole interval has read
abbrev pub HasReadOf : McuReaderValue → IntervalValue → List (List ℤ) → Type 0
HasReadOf r i zs = (r.run ≡ whole_run i) × HasRead r zs

-- and no whole MCU follows them, or none is left
abbrev pub HasReadAll : McuReaderValue → IntervalValue → List (List ℤ) → Type 0
HasReadAll r i zs = HasReadOf r i zs × HasEnded r

-- what each reader keeps, which has these bits left
pub record IsMcuReader (r : McuReaderValue) (left : List Bool) : Type 0 where
  pub valid : IsValid r.run.interval.head
  pub few : r.mcu ≤ r.run.mcus
  pub small : r.run.mcus < 2 ^ 32
  pub bits : left ≡ left_at r.run.interval r.place
  pub three : length r.place.predictions ≡ 3
  pub in_range : All IsInDcRange r.place.predictions
