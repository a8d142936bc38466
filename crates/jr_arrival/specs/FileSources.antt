-- A source of MCUs over a window of a file's bytes.
use Rattle.std.specs.Prelude.{◌≡◌, ℕ, ◌+◌, ◌-◌, ◌*◌, ◌<◌, ◌≤◌, ◌⊎◌, ⊤, Bool, true, false, List, length, replicate, take, drop, Option, Some, None, IfSome}
use Rattle.std.specs.List.{All}
use Rattle.jr_head.specs.HeadValue.{HeadValue}
use Rattle.jr_head.specs.Geometry.{mcus_of}
use Rattle.jr_head.specs.Intervals.{mcus_in}
use Rattle.jr_mcu.specs.Block.{IsInDcRange}
use Rattle.jr_base.specs.declared.marker.TheConstants.{PREFIX}
use Rattle.jr_cut.specs.Cut.{IsRaw, IsStop}
use Rattle.jr_scan.specs.declared.place.Place.{Place}
use Rattle.jr_scan.specs.IntervalValue.{IntervalValue}
use Rattle.jr_scan.specs.Run.{HasNoMcu, left_at, start_of_interval}
use Rattle.jr_scan.specs.ScanValue.{ScanValue}
use Rattle.jr_rows.specs.Cursors.{mcus_to}
use Rattle.jr_arrival.specs.declared.file_bytes.FileBytes.{FileBytes}
use Rattle.jr_arrival.specs.declared.file_source.FileSource.{FileSource}
use Rattle.jr_arrival.specs.declared.window.TheConstants.{MCU_BITS, WINDOW}
use Rattle.jr_arrival.specs.declared.window.Window.{Window}
use Rattle.jr_arrival.specs.LongerFile.{IsSettled}
use Rattle.jr_arrival.specs.Meaning.{HasNoData, IsStuckAt, MayBe, ReadsAt}
use Rattle.jr_arrival.specs.Parts.{last_part, part_of}
use Rattle.jr_arrival.specs.Places.{IsIn}
use Rattle.jr_arrival.specs.Sources.{SourceValue}

-- the bytes starting at that offset spell this data, and all of it up to a marker or the end if it ends there
pub record Spells (bytes : List ℕ) (at : ℕ) (found : List ℕ) (ends : Bool) : Type 0 where
  pub read : ℕ
  pub within : at + read ≤ length bytes
  pub spelled : IsRaw (take read (drop at bytes)) found
  pub stop : ends ≡ true → IsStop (drop (at + read) bytes)

-- the data in a window
abbrev pub data_in : Window → List ℕ
data_in w = take (w.found - w.from) (drop w.from w.space.items)

-- the window is one of the file
pub record IsWindow (w : Window) : Type 0 where
  pub space : length w.space.items ≡ WINDOW
  pub from : w.from ≤ w.found
  pub found : w.found ≤ WINDOW
  pub at : w.at ≤ length w.file.bytes.now
  pub spells : Spells w.file.bytes.now w.at (data_in w) w.ends
  -- if it may reach the end of the file, only the data's end or a full window ends it
  pub full : length w.file.bytes.now ≤ w.reach → w.ends ≡ false → w.found ≡ WINDOW

-- that offset in the file's bytes is after the given number of bytes of the window's data
pub record IsOffset (w : Window) (byte at : ℕ) : Type 0 where
  pub read : ℕ
  pub is : at ≡ w.at + read
  pub within : at ≤ length w.file.bytes.now
  pub spelled : IsRaw (take read (drop w.at w.file.bytes.now)) (take byte (data_in w))

-- the window without its first bytes, after which the data begin at that offset
abbrev pub trimmed : Window → (byte at : ℕ) → Window
trimmed w byte at = record w { at = at; from = w.from + byte }

-- a number that each step to another window makes smaller
abbrev pub to_read : Window → ℕ
to_read w = (length w.file.bytes.now - w.at) + (length w.file.bytes.now - w.reach) + w.from

-- only fill bytes follow the interval's data, to the end of the bytes
pub record IsOpen (w : Window) : Type 0 where
  pub read : ℕ
  pub found : List ℕ
  pub within : w.at + read ≤ length w.file.bytes.now
  pub spelled : IsRaw (take read (drop w.at w.file.bytes.now)) found
  pub fill : ℕ
  pub all : drop (w.at + read) w.file.bytes.now ≡ replicate fill PREFIX

-- the rest of the interval, as far as its data are in the window
abbrev pub in_window : HeadValue → FileSource → IntervalValue
in_window h s = record { number = s.cursor.number; mcus = mcus_in h s.cursor.number - s.cursor.mcu; bytes = data_in s.window; head = h }

-- no MCU follows that position in the window, which reaches to the end of the interval's data or has at least the maximum number of bits
-- of an MCU left
pub record NoneFollows (h : HeadValue) (s : FileSource) (p : Place) : Type 0 where
  pub none : HasNoMcu (in_window h s) p
  pub far : (s.window.ends ≡ true) ⊎ (MCU_BITS ≤ length (left_at (in_window h s) p))

-- the position is in the window
abbrev pub IsInside : Window → Option Place → Type 0
IsInside w None = ⊤
IsInside w (Some p) = (p.bit ≤ 8 * (w.found - w.from)) × All IsInDcRange p.predictions

-- its numbers are those of an MCU of an image with this header
pub record IsFileSource (h : HeadValue) (s : FileSource) : Type 0 where
  pub window : IsWindow s.window
  pub inside : IsInside s.window s.cursor.place
  pub is_in : IsIn h s.cursor.number s.cursor.mcu
  pub over : s.ended ≡ true → s.cursor.place ≡ None

-- what the position says, which counts from that offset: where the next MCU of interval i begins, that none is whole, or that the scan has
-- ended
abbrev pub MeansNext : (whole : List ℕ) (t : ScanValue) (i mcu at : ℕ) → Option Place → (ended : Bool) → Type 0
MeansNext whole t i mcu at (Some p) ended = ReadsAt whole t i mcu at p
MeansNext whole t i mcu at None false = IsStuckAt whole t i mcu at
MeansNext whole t i mcu at None true = HasNoData t i

-- its position is right in that file, of that scan
pub record IsRightIn (whole : List ℕ) (t : ScanValue) (s : FileSource) : Type 0 where
  pub from : t.head.scan_at ≤ s.window.file.from + s.window.at
  pub means : MeansNext whole t s.cursor.number s.cursor.mcu (s.window.file.from + s.window.at) s.cursor.place s.ended

-- more bytes of the file may come, and no file that ends with those of the window, in which the position is right, makes the MCU there final
pub record Waits (h : HeadValue) (s : FileSource) : Type 0 where
  pub goes_on : s.window.file.are_all ≡ false
  pub unsettled : (so_far : List ℕ) (t : ScanValue) → MayBe (last_part (part_of s.window.file)) h so_far t → IsRightIn so_far t s → mcus_to h s.cursor < mcus_of h → IsSettled so_far t (mcus_to h s.cursor) → ⊥

-- as a source
abbrev pub source_of : FileSource → SourceValue FileBytes
source_of s = record {
  part = s.window.file;
  cursor = s.cursor;
  is_at = λ h. IsFileSource h s;
  may_be = λ h whole t. MayBe (part_of s.window.file) h whole t × IsRightIn whole t s;
  reads_all = λ h. IfSome s.cursor.place (NoneFollows h s);
  waits = λ h. Waits h s;
}

-- where the first MCU of an interval is read, unless the scan has ended
abbrev pub start_unless : (ended : Bool) → Option Place
start_unless false = Some start_of_interval
start_unless true = None

-- before the first MCU of the next interval, to whose data it has moved
abbrev pub begun : FileSource → FileSource
begun s = record s { cursor = record { number = s.cursor.number + 1; mcu = 0; place = start_unless s.ended } }

-- a step to the beginning of the next interval, or to the scan's end
abbrev pub BeginsNext : HeadValue → (old new : FileSource) → Type 0
BeginsNext h old new = (whole : List ℕ) (t : ScanValue) → MayBe (part_of old.window.file) h whole t → IsRightIn whole t old → IsRightIn whole t (begun new)
