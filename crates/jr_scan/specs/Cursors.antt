-- A cursor between two MCUs of an interval, and the MCUs that are taken or read from there.
use Rattle.std.specs.Prelude.{◌≡◌, ℕ, ◌+◌, ◌<◌, ◌≤◌, List, [], length, replicate, ℤ, pos, slice_index_or, Option, Some, None}
use Rattle.jr_scan.specs.declared.place.Place.{Place}
use Rattle.jr_scan.specs.declared.place.RunEnd.TheVariants.{AllRead}
use Rattle.jr_scan.specs.IntervalValue.{IntervalValue}
use Rattle.jr_scan.specs.Mcus.{AreBlocks, HasLongestFront, LongestFront, units_before}
use Rattle.jr_scan.specs.Run.{IsNext, IsRun, run_from, start_of_interval}
use Rattle.jr_scan.specs.declared.cursor.Cursor.{Cursor}

-- the first `mcu` MCUs of an interval are before this position; if it is `None`, no further one is whole
pub record IsPlaceAfter (i : IntervalValue) (mcu : ℕ) (place : Option Place) : Type 0 where
  pub few : mcu ≤ i.mcus
  pub next : (p : Place) → place ≡ Some p → (zs : List (List ℤ)) × IsNext i mcu zs p
  pub none : place ≡ None → (front : ℕ) × (zs : List (List ℤ)) × (front ≤ mcu) × (front < i.mcus) × LongestFront i front zs

-- the start of an interval
abbrev pub interval_start : ℕ → Cursor
interval_start number = record { number = number; mcu = 0; place = Some start_of_interval }

-- of at most `most` MCUs after the first of an interval these n are taken, with these blocks; if they are fewer, or if there is no next position, no further one is whole
pub record TakesMcus (i : IntervalValue) (first : ℕ) (from : Place) (most n : ℕ) (zs : List (List ℤ)) (next : Option Place) : Type 0 where
  pub are : AreBlocks i first n zs
  pub to : Place
  pub run : IsRun (run_from i from n) zs to AllRead
  pub last : n < most → HasLongestFront i (first + n)
  pub none : next ≡ None → HasLongestFront i (first + n)

-- a block whose coefficients are all 0
abbrev pub zero_block : List ℤ
zero_block = replicate 64 (pos 0)

-- these are the blocks of an interval starting at MCU `first`: those of its longest prefix, and zeros after it
abbrev pub AreBlocksFrom : IntervalValue → ℕ → List (List ℤ) → Type 0
AreBlocksFrom i first blocks = (front : ℕ) (zs : List (List ℤ)) → LongestFront i front zs → (k : ℕ) → k < length blocks → slice_index_or blocks k [] ≡ slice_index_or zs (units_before i first + k) zero_block

-- an interval, the number of its MCUs that are read, and where the next one starts; no position if no whole MCU follows
pub record ReadingValue : Type 0 where
  pub interval : IntervalValue
  pub first : ℕ
  pub next : Option Place

-- what a reader of whole MCUs alone keeps: all MCUs before its position are whole
pub record IsReading (r : ReadingValue) : Type 0 where
  pub at : IsPlaceAfter r.interval r.first r.next
  pub longest : r.next ≡ None → HasLongestFront r.interval r.first
