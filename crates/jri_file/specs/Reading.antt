-- What is read of an input, and cut meanwhile.
use Rattle.std.specs.Prelude.{◌≡◌, ℕ, ◌+◌, ◌<◌, ◌≤◌, List, ◌++◌, length, Option}
use Rattle.std.specs.Io.KnownBytes.{Consumes, IsAtEnd}
use Rattle.jr_base.specs.declared.limits.TheConstants.{MAX_FILE_BYTES}
use Rattle.jr_scan.specs.PartialScan.{PartialScanValue, HasCome}

-- a scan of which `before` bytes had arrived is cut further by those that a reader returned: all of a file are there, or one more than it may have
pub record CutsOn (old new : PartialScanValue) (left_before left_after : Option (List ℕ)) (before all : ℕ) : Type 0 where
  pub given : List ℕ
  pub read : Consumes left_before left_after given
  pub count : all ≡ before + length given
  pub few : all ≤ MAX_FILE_BYTES + 1
  pub end : all < MAX_FILE_BYTES + 1 → IsAtEnd left_after
  pub come : (bytes : List ℕ) → HasCome old bytes → HasCome new (bytes ++ given)
