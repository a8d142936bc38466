-- A file that is still arriving, as far as it has come.
use Rattle.std.specs.Prelude.{◌≡◌, ℕ, ◌-◌, ◌*◌, ◌^◌, ◌≤◌, min, List, length, take, Option, Some, None}
use Rattle.jr_base.specs.declared.limits.TheConstants.{MAX_FILE_BYTES}
use Rattle.jr_head.specs.Heads.{HeadOf}
use Rattle.jr_paint.specs.Lines.{line_size}
use Rattle.jr_scan.specs.PartialScan.{PartialScanValue, HasCome}
use Rattle.jr_arrival.specs.PartialRows.{AreFinalLines, PartialRowValue}
use Rattle.jr_arrival.specs.Settled.{ReturnsSettled}

-- the scan, the number of bytes of its file that have come, and the row of MCUs that comes next
pub record PartialImageValue : Type 0 where
  pub partial_scan : PartialScanValue
  pub bytes : ℕ
  pub row : PartialRowValue

-- these bytes have a header, and are cut into that scan
abbrev pub HasBegun : PartialImageValue → List ℕ → Type 0
HasBegun c bytes = HeadOf bytes c.partial_scan.scan.head × HasCome c.partial_scan bytes × (c.bytes ≡ length bytes)

-- what contracts see of a file that is still arriving: its bytes until they have a header, then its scan; and the number of bytes
-- that have come, of which those beyond the limit are not kept
pub record PartialFileValue : Type 0 where
  pub bytes : List ℕ
  pub partial_image : Option PartialImageValue
  pub count : ℕ

abbrev pub HoldsBytes : List ℕ → Option PartialImageValue → List ℕ → Type 0
HoldsBytes kept None bytes = kept ≡ bytes
HoldsBytes kept (Some c) bytes = HasBegun c bytes

-- these bytes of the file have come
pub record IsPartialFile (v : PartialFileValue) (bytes : List ℕ) : Type 0 where
  pub count : v.count ≡ min (length bytes) (2 ^ 64 - 1)
  pub holds : length bytes ≤ MAX_FILE_BYTES → HoldsBytes v.bytes v.partial_image bytes

-- the number of lines that were returned
abbrev pub given_of : Option PartialImageValue → ℕ
given_of None = 0
given_of (Some c) = c.row.lines

-- a look at the scan returns lines of it
pub record ReturnsFinalLines (c : PartialImageValue) (first n : ℕ) (pixels : List ℕ) : Type 0 where
  pub settled : (bytes : List ℕ) → HasCome c.partial_scan bytes → ReturnsSettled bytes c.partial_scan.scan first n (length pixels)
  pub are : AreFinalLines c.partial_scan first n (take (n * line_size c.partial_scan.scan.head) pixels)
