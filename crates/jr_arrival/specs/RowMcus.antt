-- MCUs of a row, after those that it has.
use Rattle.std.specs.Prelude.{◌≡◌, ℕ, ◌+◌, ◌*◌, ◌<◌, ◌≤◌, Bool, List, [], IsTrue, ℤ, Some, slice_index_or}
use Rattle.jr_head.specs.HeadValue.{HeadValue}
use Rattle.jr_head.specs.Geometry.{IsValid, blocks_of, mcus_across}
use Rattle.jr_head.specs.Intervals.{mcus_in}
use Rattle.jr_scan.specs.declared.place.Place.{Place}
use Rattle.jr_scan.specs.declared.place.RunEnd.TheVariants.{AllRead}
use Rattle.jr_scan.specs.IntervalValue.{IntervalValue}
use Rattle.jr_scan.specs.McuReader.{McuReaderValue, HasRead}
use Rattle.jr_scan.specs.Run.{HasNoMcu, IsRun, run_from, CanReadFrom}
use Rattle.jr_scan.specs.declared.cursor.Cursor.{Cursor}
use Rattle.jr_piece.specs.Outcome.{unit_of}
use Rattle.jr_rows.specs.Groups.{units_in}

-- the given number of MCUs after the first `done` have these data units, and the first ones are kept
pub record ExtendsRow (h : HeadValue) (done more : ℕ) (unit : ℕ → List ℕ) (old new : List (List ℕ)) : Type 0 where
  pub kept : (k : ℕ) → k < done * blocks_of h → slice_index_or (units_in h new) k [] ≡ slice_index_or (units_in h old) k []
  pub each : (k : ℕ) → k < more * blocks_of h → slice_index_or (units_in h new) (done * blocks_of h + k) [] ≡ unit k

-- the reader has read that number of MCUs of its run, which a row that keeps them has after its first `done`
pub record TakesIntoRow (keeps : Bool) (h : HeadValue) (r : McuReaderValue) (done more : ℕ) (old new : List (List ℕ)) : Type 0 where
  pub blocks : List (List ℤ)
  pub read : HasRead r blocks
  pub adds : IsTrue keeps → ExtendsRow h done more (unit_of h blocks) old new

-- whole MCUs of an interval are taken, past which the cursor has moved: they have these blocks, and a row that keeps them has them after
-- its first `done`; if they are none, no further one is whole
pub record TakesWhole (h : HeadValue) (i : IntervalValue) (from : Place) (keeps : Bool) (done more : ℕ) (c d : Cursor) (old new : List (List ℕ)) : Type 0 where
  pub to : Place
  pub blocks : List (List ℤ)
  pub cursor : d ≡ record { number = c.number; mcu = c.mcu + more; place = Some to }
  pub run : IsRun (run_from i from more) blocks to AllRead
  pub can : CanReadFrom i to
  pub few : c.mcu + more ≤ mcus_in h c.number
  pub across : done + more ≤ mcus_across h
  pub adds : IsTrue keeps → ExtendsRow h done more (unit_of h blocks) old new
  pub none : more ≡ 0 → (d ≡ c) × HasNoMcu i from
  -- the header is valid, and an MCU has a data unit
  pub valid : IsValid h
  pub units : 0 < blocks_of h
