-- How the bytes of a scan fall into segments.
use Rattle.std.specs.Prelude.{◌≡◌, ◌≢◌, ℕ, suc, ◌+◌, ◌%◌, ◌<◌, List, [], ◌∷◌, ◌++◌, length, replicate, map, ◌⊎◌}
use Rattle.std.specs.List.{flat_map, AllByRecursion}
use Rattle.jr_base.specs.declared.marker.TheConstants.{EOI, PREFIX, RST0, SOI}
use Rattle.jr_cut.specs.declared.scan_end.ScanEnd.{ScanEnd}
use Rattle.jr_cut.specs.declared.scan_end.ScanEnd.TheVariants.{EndOfImage, OtherMarker, OutOfStep, ExtraRestart, EndOfFile}

-- how a data byte is spelled: by itself, or FF by the given number of further FF and 00
pub data Spelling : Type 0 where
  Plain : ℕ → Spelling
  Stuffed : ℕ → Spelling

abbrev pub IsSpelling : Spelling → Type 0
IsSpelling (Plain byte) = byte ≢ PREFIX
IsSpelling (Stuffed more) = Unit {0}

abbrev pub spelling : Spelling → List ℕ
spelling (Plain byte) = byte ∷ []
spelling (Stuffed more) = PREFIX ∷ (replicate more PREFIX ++ 0 ∷ [])

abbrev pub byte_spelled : Spelling → ℕ
byte_spelled (Plain byte) = byte
byte_spelled (Stuffed more) = PREFIX

-- raw is spellings of the bytes of data, one after the other
pub record IsRaw (raw bytes : List ℕ) : Type 0 where
  pub parts : List Spelling
  pub each : AllByRecursion IsSpelling parts
  pub spelled : raw ≡ flat_map spelling parts
  pub means : bytes ≡ map byte_spelled parts

-- one or more FF and a code
abbrev pub marker : ℕ → ℕ → List ℕ
marker more code = PREFIX ∷ (replicate more PREFIX ++ code ∷ [])

-- a segment after a restart marker: the marker's further FF, the segment's bytes as they are and the data that they spell
pub record CodedSegment : Type 0 where
  pub more : ℕ
  pub raw : List ℕ
  pub bytes : List ℕ

-- segments with their markers, the first of which has number k modulo 8
abbrev pub with_markers : ℕ → List CodedSegment → List ℕ
with_markers k [] = []
with_markers k (p ∷ ps) = marker p.more (RST0 + k % 8) ++ (p.raw ++ with_markers (suc k) ps)

abbrev pub HasMarker : List ℕ → ℕ → Type 0
HasMarker tail code = (more : ℕ) × (rest : List ℕ) × (tail ≡ marker more code ++ rest)

-- what ends the scan: n intervals, the last segment is number k, and tail is at that offset
abbrev pub IsEnding : (n k at : ℕ) → List ℕ → ScanEnd → Type 0
IsEnding n k at tail EndOfFile = (more : ℕ) × (tail ≡ replicate more PREFIX)
IsEnding n k at tail EndOfImage = HasMarker tail EOI
IsEnding n k at tail (ExtraRestart offset) = (number : ℕ) × (number < 8) × HasMarker tail (RST0 + number) × (k + 1 ≡ n) × (offset ≡ at)
IsEnding n k at tail (OutOfStep found expected offset) = (found < 8) × HasMarker tail (RST0 + found) × (k + 1 < n) × (expected ≡ k % 8) × (found ≢ expected) × (offset ≡ at)
IsEnding n k at tail (OtherMarker code offset) = (0 < code) × (code < PREFIX) × HasMarker tail code × ((code < RST0) ⊎ ((code ≡ SOI) ⊎ (EOI < code))) × (offset ≡ at)

-- the bytes at that offset are segment k, the markers and segments after it, and what ends the scan; datas is what the segments spell
pub record CutFrom (n k at : ℕ) (bytes : List ℕ) (datas : List (List ℕ)) (end : ScanEnd) : Type 0 where
  pub raw : List ℕ
  pub first : List ℕ
  pub segments : List CodedSegment
  pub tail : List ℕ
  pub is_raw : IsRaw raw first
  pub each : AllByRecursion (λ p. IsRaw p.raw p.bytes) segments
  pub few : k + length segments < n
  pub spelled : bytes ≡ raw ++ (with_markers k segments ++ tail)
  pub means : datas ≡ first ∷ map (λ p. p.bytes) segments
  pub ends : IsEnding n (k + length segments) (at + length (raw ++ with_markers k segments)) tail end

-- the scan's bytes, of which the first is at that offset of the file
abbrev pub IsCut : (n at : ℕ) → List ℕ → List (List ℕ) → ScanEnd → Type 0
IsCut n at bytes datas end = CutFrom n 0 at bytes datas end

-- a way to cut them: what the segments spell, and what ends the scan
pub record Cutting (n at : ℕ) (bytes : List ℕ) : Type 0 where
  pub datas : List (List ℕ)
  pub end : ScanEnd
  pub is : IsCut n at bytes datas end

-- what a segment stops at: FF bytes to the end, or FF bytes and a code
pub record IsStop (tail : List ℕ) : Type 0 where
  pub more : ℕ
  pub rest : List ℕ
  pub spelled : tail ≡ replicate more PREFIX ++ rest
  pub stops : (rest ≡ []) ⊎ ((0 < more) × (code : ℕ) × (after : List ℕ) × (code ≢ 0) × (code ≢ PREFIX) × (rest ≡ code ∷ after))
