-- The segments of a scan that some of its file's bytes make final (T.81, B.1.1.5 and E.1.4): a marker follows them.
use Rattle.std.specs.Prelude.{◌≡◌, ℕ, ◌+◌, Bool, true, false, List, [], ◌++◌, length, min, replicate, drop, slice_index_or, Option}
use Rattle.jr_base.specs.declared.limits.TheConstants.{MAX_FILE_BYTES}
use Rattle.jr_base.specs.declared.marker.TheConstants.{PREFIX}
use Rattle.jr_cut.specs.declared.file_segments.CodedSpan.{CodedSpan}
use Rattle.jr_cut.specs.declared.file_segments.FileSegment.{FileSegment}
use Rattle.jr_cut.specs.Coded.{IsSpelledAt}
use Rattle.jr_cut.specs.Cut.{IsRaw}
use Rattle.jr_arrival.specs.Arrival.{CanBecome}
use Rattle.jr_damage.specs.Coded.{IsNextAt, IsSegmentOf}
use Rattle.jr_damage.specs.Map.{AreBytesOf}
use Rattle.jr_scan.specs.ScanValue.{ScanValue}

-- the file that bytes are if they are all, otherwise each that they can become
abbrev pub IsFileOf : (bytes : List ℕ) (all : Bool) (file : List ℕ) → Type 0
IsFileOf bytes true file = file ≡ bytes
IsFileOf bytes false file = CanBecome bytes file

-- an offset that no byte of any of them has
abbrev pub end_of : (all : Bool) → List ℕ → ℕ
end_of true bytes = length bytes
end_of false bytes = MAX_FILE_BYTES

-- no marker is among the bytes starting at that offset: they spell data, and FF bytes may follow
pub record HasNoMarkerFrom (bytes : List ℕ) (at : ℕ) : Type 0 where
  pub raw : List ℕ
  pub found : List ℕ
  pub fill : ℕ
  pub spelled : IsRaw raw found
  pub are : drop at bytes ≡ raw ++ replicate fill PREFIX

-- the bytes spell the data of interval k of the file's scan, their span is its segment in the file if it has bytes, and the next one
-- begins at that offset, or at the file's end if that is earlier
pub record IsFinalSegment (bytes file : List ℕ) (s : ScanValue) (k : ℕ) (g : FileSegment) : Type 0 where
  pub spelled : IsSpelledAt bytes g.bytes (slice_index_or s.intervals k [])
  pub span : CodedSpan
  pub segment : IsSegmentOf file s k span
  pub same : (reported : Option CodedSpan) → AreBytesOf g.bytes reported → AreBytesOf span reported
  pub next : IsNextAt file s (k + 1) (min g.next (length file))
