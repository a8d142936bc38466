-- The result of the call that lists the damaged intervals of a file in memory, or of the bytes of it that have arrived.
use Rattle.std.specs.Prelude.{◌≡◌, ℕ, ◌+◌, ◌<◌, ◌≤◌, ◌⊎◌, Bool, true, false, List, length, drop, max, min, Option, Some, None, slice_index_or}
use Rattle.jr_cut.specs.declared.file_segments.CodedSpan.{CodedSpan}
use Rattle.jr_scan.specs.Mcus.{HasNoDecoding}
use Rattle.jr_scan.specs.ScanValue.{ScanValue, interval_of}
use Rattle.jr_damage.specs.declared.map.DamagedInterval.{DamagedInterval}
use Rattle.jr_damage.specs.Coded.{IsNextAt, IsSegmentOf}
use Rattle.jr_damage.specs.Map.{IsDamageOf}
use Rattle.jr_damage.specs.Verdicts.{IsFileScan}
use Rattle.jri_memory.specs.declared.damages.Damage.{Damage}
use Rattle.jri_memory.specs.declared.damages.DamageReport.{DamageReport}
use Rattle.jri_memory.specs.FinalSegments.{HasNoMarkerFrom, IsFileOf}

-- the bytes of an interval as numbers, 0 if it has none
abbrev pub ReportsBytes : Option CodedSpan → Damage → Type 0
ReportsBytes None d = (d.start ≡ 0) × (d.end ≡ 0)
ReportsBytes (Some span) d = (d.start ≡ span.start) × (d.end ≡ span.end)

-- a damaged interval as numbers
pub record IsDamageEntry (i : DamagedInterval) (d : Damage) : Type 0 where
  pub interval : d.interval ≡ i.number
  pub first_mcu : d.first_mcu ≡ i.mcus.first
  pub mcus : d.mcus ≡ i.mcus.count
  pub decodable : d.decodable ≡ i.decodable
  pub first_line : d.first_line ≡ i.lines.first
  pub last_line : d.last_line ≡ i.lines.last
  pub bytes : ReportsBytes i.bytes d

-- the entry past the last one
abbrev pub no_damage : Damage
no_damage = record { interval = 0; first_mcu = 0; mcus = 0; decodable = 0; first_line = 0; last_line = 0; start = 0; end = 0 }

abbrev pub damage_at : List Damage → ℕ → Damage
damage_at damages k = slice_index_or damages k no_damage

-- an entry of the list: a damaged interval starting at number `first` and before `next`, with the bytes of its segment
pub record IsListedAt (file : List ℕ) (s : ScanValue) (first next : ℕ) (d : Damage) : Type 0 where
  pub interval : DamagedInterval
  pub span : CodedSpan
  pub reports : IsDamageEntry interval d
  pub is : IsDamageOf (interval_of s d.interval) span interval
  pub segment : IsSegmentOf file s d.interval span
  pub from : first ≤ d.interval
  pub before : d.interval < next

-- number k of the list is of this interval
abbrev pub IsAt : List Damage → (count i : ℕ) → Type 0
IsAt damages count i = (k : ℕ) × (k < count) × ((damage_at damages k).interval ≡ i)

-- the first of a list are the damaged intervals starting at number `first` and before `next`, in their order
pub record AreDamages (file : List ℕ) (s : ScanValue) (first next count : ℕ) (damages : List Damage) : Type 0 where
  pub start : first ≤ next
  pub each : (k : ℕ) → k < count → IsListedAt file s first next (damage_at damages k)
  pub order : (k : ℕ) → k + 1 < count → (damage_at damages k).interval < (damage_at damages (k + 1)).interval
  pub all : (i : ℕ) → first ≤ i → i < next → HasNoDecoding (interval_of s i) → IsAt damages count i

-- a position of the file: the segment of interval i begins at that offset, at the scan's first byte if that is later, or at the
-- file's end if that is earlier
abbrev pub IsPositionOf : (file : List ℕ) (s : ScanValue) (i at : ℕ) → Type 0
IsPositionOf file s i at = IsNextAt file s i (min (max at s.head.scan_at) (length file))

-- a list from a position has the damaged intervals up to the next one, and stops at a position
pub record ListsFrom (file : List ℕ) (s : ScanValue) (first next next_at count : ℕ) (damages : List Damage) : Type 0 where
  pub are : AreDamages file s first next count damages
  pub stops : IsPositionOf file s next next_at

-- the damaged intervals of a file that begins with these bytes are listed starting at this position, as many as fit and, if more bytes
-- may come, as the bytes make final; the list after them is unchanged
pub record ListsDamages (bytes : List ℕ) (all : Bool) (file : List ℕ) (first first_at : ℕ) (old new : List Damage) (r : DamageReport) : Type 0 where
  pub scan : ScanValue
  pub is : IsFileScan file scan
  pub top : IsPositionOf file scan 0 0
  pub lists : IsPositionOf file scan first first_at → ListsFrom file scan (min first (length scan.intervals)) r.next r.next_at r.count new
  pub within : r.next ≤ length scan.intervals
  pub offset : all ≡ true → r.next_at ≤ length file
  pub stops : r.next < length scan.intervals → (r.count ≡ length old) ⊎ ((all ≡ false) × HasNoMarkerFrom bytes r.next_at)
  pub long : length new ≡ length old
  pub after : drop r.count new ≡ drop r.count old
  pub no_fault : (r.refusal ≡ 0) × (r.detail ≡ 0)

-- of each file that may begin with the bytes
abbrev pub ListsInEach : (bytes : List ℕ) (all : Bool) (first first_at : ℕ) (old new : List Damage) → DamageReport → Type 0
ListsInEach bytes all first first_at old new r = (file : List ℕ) → IsFileOf bytes all file → ListsDamages bytes all file first first_at old new r

-- a report of no list: 0 for all but the refusal's two numbers
pub record ReportsNoDamage (r : DamageReport) : Type 0 where
  pub count : r.count ≡ 0
  pub next : r.next ≡ 0
  pub next_at : r.next_at ≡ 0
