-- The marks of intervals as bytes in a buffer, which is empty if they are not asked for.
use Rattle.std.specs.Prelude.{◌≡◌, ℕ, ◌+◌, ◌<◌, ◌≤◌, List, length, slice_index}
use Rattle.jr_scan.specs.ScanValue.{ScanValue}
use Rattle.jr_picture.specs.declared.mark.Mark.{Mark}
use Rattle.jr_picture.specs.declared.mark.Mark.TheVariants.{Blank, Sound, Damaged}
use Rattle.jr_picture.specs.DecodedScan.{DecodedScan, marks_of}
use Rattle.jr_picture.specs.Headline.{mark_in}
use Rattle.jr_rows.specs.Rows.{DecodesFirst, coded_before, intervals_before}

-- a mark as a byte
abbrev pub mark_byte : Mark → ℕ
mark_byte Blank = 0
mark_byte Sound = 1
mark_byte Damaged = 2

-- if marks are asked for there is a byte for each interval
abbrev pub HasMarkSpace : ScanValue → List ℕ → Type 0
HasMarkSpace scan bytes = 0 < length bytes → length bytes ≡ length scan.intervals

-- if marks are asked for, those of the intervals starting at number `from` and before `to` are written,
-- and those before are kept
pub record StoresMarks (scan : ScanValue) (n from to : ℕ) (old new : List ℕ) : Type 0 where
  pub long : length new ≡ length old
  pub store : (b : DecodedScan) → DecodesFirst scan n b → 0 < length old → (k : ℕ) → from ≤ k → k < to → slice_index new k ≡ mark_byte (mark_in (marks_of b) k)
  pub kept : (k : ℕ) → k < from → slice_index new k ≡ slice_index old k

-- those of the intervals that end among MCUs `from` to `to`
abbrev pub StoresMcus : ScanValue → (n from to : ℕ) → (old new : List ℕ) → Type 0
StoresMcus scan n from to old new = StoresMarks scan n (intervals_before scan.head from) (intervals_before scan.head to) old new

-- those of the intervals that end in a row of MCUs
abbrev pub StoresRow : ScanValue → (n row : ℕ) → (old new : List ℕ) → Type 0
StoresRow scan n row old new = StoresMcus scan n (coded_before scan.head n row) (coded_before scan.head n (row + 1)) old new

-- those of the intervals that end in the rows of MCUs starting at one and before another, if all are decoded
abbrev pub StoresBetween : ScanValue → (from to : ℕ) → (old new : List ℕ) → Type 0
StoresBetween scan from to old new = let n = length scan.intervals in StoresMcus scan n (coded_before scan.head n from) (coded_before scan.head n to) old new
