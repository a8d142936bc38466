-- Whole MCUs of an interval, decoded into a row as they are read.
use Rattle.std.specs.Prelude.{◌≡◌, ℕ, ◌+◌, ◌*◌, ◌<◌, List, [], ◌++◌, length, ℤ, slice_index_or}
use Rattle.jr_head.specs.Geometry.{blocks_of}
use Rattle.jr_scan.specs.McuReader.{McuReaderValue, HasRead}
use Rattle.jr_piece.specs.Outcome.{unit_of}

-- the reader r' has read that number of MCUs after those of r, and their data units are after the first `done` MCUs
pub record DecodesMcus (r r' : McuReaderValue) (done mcus : ℕ) (units : List (List ℕ)) : Type 0 where
  pub blocks : List (List ℤ)
  pub long : length blocks ≡ mcus * blocks_of r.run.interval.head
  pub read : (zs : List (List ℤ)) → HasRead r zs → HasRead r' (zs ++ blocks)
  pub each : (k : ℕ) → k < mcus * blocks_of r.run.interval.head → slice_index_or units (done * blocks_of r.run.interval.head + k) [] ≡ unit_of r.run.interval.head blocks k
