-- A source of the MCUs of a scan, and its steps.
use Rattle.std.specs.Prelude.{◌≡◌, ℕ, ◌+◌, ◌<◌, ◌≤◌, Bool, List, length, IsTrue, None}
use Rattle.jr_head.specs.HeadValue.{HeadValue}
use Rattle.jr_head.specs.Geometry.{mcus_across}
use Rattle.jr_head.specs.Intervals.{intervals_of, mcus_in}
use Rattle.jr_scan.specs.ScanValue.{ScanValue}
use Rattle.jr_scan.specs.declared.cursor.Cursor.{Cursor}
use Rattle.jr_rows.specs.Cursors.{mcus_to}
use Rattle.jr_rows.specs.Groups.{units_in}
use Rattle.jr_rows.specs.Rows.{ShowsFirstUnits}
use Rattle.jr_arrival.specs.Meaning.{HasNoFurtherMcu}

-- what is known of a source
pub record SourceValue (Part : Type 0) : Type 1 where
  -- what it has of a file
  pub part : Part
  pub cursor : Cursor
  -- its numbers are those of an MCU of an image with this header
  pub is_at : HeadValue → Type 0
  -- it may be a part of this file, of this scan, in which its position is right
  pub may_be : HeadValue → List ℕ → ScanValue → Type 0
  -- no further MCU of its interval is whole in what it has
  pub reads_all : HeadValue → Type 0
  -- what it has does not make the next MCU final
  pub waits : HeadValue → Type 0

-- it has moved past that number of MCUs, and its position is right where the one before was
pub record Steps {Part : Type 0} (h : HeadValue) (old new : SourceValue Part) (mcus : ℕ) : Type 0 where
  pub at : new.is_at h
  pub part : new.part ≡ old.part
  pub right : (whole : List ℕ) (t : ScanValue) → old.may_be h whole t → new.may_be h whole t
  pub passed : mcus_to h new.cursor ≡ mcus_to h old.cursor + mcus

-- a row has the MCUs that the source has moved past after its first `done` ones, if it keeps them: if those are of the image, these are
abbrev pub ShowsMore : {Part : Type 0} → HeadValue → SourceValue Part → (keeps : Bool) → (done more : ℕ) → (before after : List (List ℕ)) → Type 0
ShowsMore h s keeps done more before after = IsTrue keeps → (from : ℕ) → mcus_to h s.cursor ≡ from + done → (whole : List ℕ) (t : ScanValue) → s.may_be h whole t
    → ShowsFirstUnits t (length t.intervals) from done (units_in t.head before) → ShowsFirstUnits t (length t.intervals) from (done + more) (units_in t.head after)

pub record Walks {Part : Type 0} (h : HeadValue) (old new : SourceValue Part) (keeps : Bool) (done more : ℕ) (before after : List (List ℕ)) : Type 0 where
  pub steps : Steps h old new more
  pub shows : ShowsMore h old keeps done more before after
  pub few : done + more ≤ mcus_across h

-- MCUs of its interval are left, and none of them is whole in any of those files
pub record HasNoneLeft {Part : Type 0} (h : HeadValue) (s : SourceValue Part) : Type 0 where
  pub number : s.cursor.number < intervals_of h
  pub some : s.cursor.mcu < mcus_in h s.cursor.number
  pub stuck : s.cursor.place ≡ None
  pub none : (whole : List ℕ) (t : ScanValue) → s.may_be h whole t → (t.head ≡ h) × (length t.intervals ≡ intervals_of h) × HasNoFurtherMcu t s.cursor.number s.cursor.mcu
