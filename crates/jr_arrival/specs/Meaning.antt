-- What a position in a file means (T.81, B.1.1.5 and E.1.4).
use Rattle.std.specs.Prelude.{◌≡◌, ℕ, zero, suc, ◌+◌, ◌-◌, ◌*◌, ◌^◌, ◌<◌, ◌≤◌, max, true, List, [], ◌∷◌, ◌++◌, length, replicate, take, drop, ℤ, slice_index_or}
use Rattle.jr_cut.specs.Cut.{CutFrom, IsRaw}
use Rattle.jr_head.specs.HeadValue.{HeadValue}
use Rattle.jr_mcu.specs.Mcus.{no_predictions}
use Rattle.jr_scan.specs.declared.place.Place.{Place}
use Rattle.jr_scan.specs.IntervalValue.{IntervalValue}
use Rattle.jr_scan.specs.Mcus.{LongestFront}
use Rattle.jr_scan.specs.ScanValue.{ScanValue, IsScanOf, interval_of, intervals_of}
use Rattle.jr_scan.specs.Run.{IsNext}
use Rattle.jr_arrival.specs.declared.place.RowPlace.{RowPlace}
use Rattle.jr_arrival.specs.Parts.{FilePart}

-- an interval with other data before it
abbrev pub with_before : IntervalValue → List ℕ → IntervalValue
with_before i front = record { number = i.number; mcus = i.mcus; bytes = front ++ i.bytes; head = i.head }

-- the position after that data
abbrev pub after : List ℕ → Place → Place
after front p = record { bit = 8 * length front + p.bit; predictions = p.predictions }

-- a file that has this part at its offset, and no byte after it if the file ends with it; and its scan, with that header
pub record MayBe (x : FilePart) (h : HeadValue) (whole : List ℕ) (t : ScanValue) : Type 0 where
  pub before : List ℕ
  pub more : List ℕ
  pub is : whole ≡ before ++ (x.bytes ++ more)
  pub from : length before ≡ x.from
  pub fits : x.from + length x.bytes < 2 ^ 64
  pub none : x.are_all ≡ true → more ≡ []
  pub head : t.head ≡ h
  pub scan : IsScanOf whole t

-- the bytes starting at that offset are the rest of interval i, after that data of it, and the segments that follow it: all
-- that the scan has
pub record GoesOnAt (whole : List ℕ) (t : ScanValue) (i at : ℕ) (before : List ℕ) : Type 0 where
  pub rest : List ℕ
  pub others : List (List ℕ)
  pub empty : ℕ
  pub cut : CutFrom (intervals_of t.head) i at (drop at whole) (rest ∷ others) t.ended
  pub datas : drop i t.intervals ≡ (before ++ rest) ∷ (others ++ replicate empty [])
  pub count : (c : IsScanOf whole t) → length c.segments ≡ i + 1 + length others

-- the given number of MCUs of interval i is whole, and the next one's bits begin at that position, counted from that offset
pub record ReadsAt (whole : List ℕ) (t : ScanValue) (i mcu at : ℕ) (p : Place) : Type 0 where
  pub before : List ℕ
  pub on : GoesOnAt whole t i at before
  pub blocks : List (List ℤ)
  pub next : IsNext (interval_of t i) mcu blocks (after before p)

-- after the given number of MCUs of interval i none is whole
pub record HasNoFurtherMcu (t : ScanValue) (i mcu : ℕ) : Type 0 where
  pub front : ℕ
  pub blocks : List (List ℤ)
  pub few : front ≤ mcu
  pub longest : LongestFront (interval_of t i) front blocks

-- and what follows is at that offset
pub record IsStuckAt (whole : List ℕ) (t : ScanValue) (i mcu at : ℕ) : Type 0 where
  pub before : List ℕ
  pub on : GoesOnAt whole t i at before
  pub no_more : HasNoFurtherMcu t i mcu

-- interval i and those after it have no data
abbrev pub HasNoData : ScanValue → ℕ → Type 0
HasNoData t i = (j : ℕ) → i ≤ j → slice_index_or t.intervals j [] ≡ []

-- what a state says of the position after the given number of MCUs of interval i
abbrev pub MeansAt : (whole : List ℕ) (t : ScanValue) (state i mcu at : ℕ) (p : Place) → Type 0
MeansAt whole t zero i mcu at p = ReadsAt whole t i mcu at p
MeansAt whole t (suc zero) i mcu at p = IsStuckAt whole t i mcu at
MeansAt whole t (suc (suc n)) i mcu at p = HasNoData t i

-- the bytes starting at that offset have that number of bits of data
pub record HasBits (bytes : List ℕ) (at bit : ℕ) : Type 0 where
  pub read : ℕ
  pub found : List ℕ
  pub within : at + read ≤ length bytes
  pub spelled : IsRaw (take read (drop at bytes)) found
  pub few : bit ≤ 8 * length found

-- the offset that a position has: none before the scan's first byte
abbrev pub offset_in : HeadValue → RowPlace → ℕ
offset_in h p = max p.at h.scan_at

-- it is a position of the whole file, at a byte of the part or after its last one, and the bits before it are there
pub record IsPlaceIn (x : FilePart) (whole : List ℕ) (t : ScanValue) (p : RowPlace) : Type 0 where
  pub bit : p.bit < 8
  pub from : x.from ≤ offset_in t.head p
  pub come : HasBits x.bytes (offset_in t.head p - x.from) p.bit
  pub means : MeansAt whole t p.state p.interval p.mcu (offset_in t.head p) (record { bit = p.bit; predictions = p.predictions })

-- the position before the first row
abbrev pub top : RowPlace
top = record { at = 0; bit = 0; row = 0; interval = 0; mcu = 0; predictions = no_predictions; state = 0 }
