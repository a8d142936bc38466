-- What is reported to a screen while a scan is decoded.
use Rattle.std.specs.Prelude.{◌≡◌, ℕ, ◌<◌, ◌≤◌, ◌==◌, ◌&&◌, leb, ⊤, Bool, false, List, [], ◌∷◌, length, count_by}
use Rattle.std.specs.List.{AllByRecursion}
use Rattle.jr_scan.specs.ScanValue.{ScanValue}
use Rattle.jr_piece.specs.PieceValue.{PieceValue}
use Rattle.jr_piece.specs.StripValue.{StripValue}
use Rattle.jr_piece.specs.Strips.{IsStrip}
use Rattle.jr_picture.specs.DecodedScan.{IsPieceOf}

-- it is shown a strip or a piece, or is asked whether it is done
pub data Notice : Type 0 where
  StripOf : StripValue → Notice
  PieceOf : PieceValue → Notice
  Asked : Notice

-- whether that is the piece of this interval
abbrev pub is_piece : ℕ → Notice → Bool
is_piece i (StripOf s) = false
is_piece i (PieceOf p) = p.interval.number == i
is_piece i Asked = false

-- the strip of this interval that begins with this MCU
abbrev pub is_strip : ℕ → ℕ → Notice → Bool
is_strip i first (StripOf s) = (s.interval.number == i) && (s.first == first)
is_strip i first (PieceOf p) = false
is_strip i first Asked = false

-- a screen changes with each report, one after the other
abbrev pub ScreenBecomes : {S : Type 0} → (S → Notice → S → Type 0) → S → List Notice → S → Type 0
ScreenBecomes becomes a [] b = b ≡ a
ScreenBecomes {S} becomes a (t ∷ more) b = (c : S) × becomes a t c × ScreenBecomes becomes c more b

-- whether that comes too late after this: the strips of an interval come in order, then its piece, and each once
abbrev pub is_late : Notice → Notice → Bool
is_late (StripOf s) (StripOf t) = (t.interval.number == s.interval.number) && leb t.first s.first
is_late (StripOf s) (PieceOf q) = false
is_late (StripOf s) Asked = false
is_late (PieceOf p) (StripOf t) = t.interval.number == p.interval.number
is_late (PieceOf p) (PieceOf q) = q.interval.number == p.interval.number
is_late (PieceOf p) Asked = false
is_late Asked t = false

-- nothing comes too late
abbrev pub AreReportedInOrder : List Notice → Type 0
AreReportedInOrder [] = ⊤
AreReportedInOrder (t ∷ later) = (count_by (is_late t) later ≡ 0) × AreReportedInOrder later

-- a piece is the scan's own, and a strip one of an interval that has a number of the scan's
abbrev pub IsOfScan : ScanValue → Notice → Type 0
IsOfScan scan (StripOf s) = IsStrip s × (s.interval.number < length scan.intervals)
IsOfScan scan (PieceOf p) = IsPieceOf scan p.interval.number p
IsOfScan scan Asked = ⊤

-- No strip and no piece was reported to a screen twice, and an interval's strips were in order and before its piece; if the
-- watch has ended well, the piece of each interval was reported.
pub record IsReported {S : Type 0} (becomes : S → Notice → S → Type 0) (scan : ScanValue) (ended : Type 0) (before after : S) : Type 0 where
  pub reported : List Notice
  pub screen : ScreenBecomes becomes before reported after
  pub own : AllByRecursion (IsOfScan scan) reported
  pub strips : (i first : ℕ) → count_by (is_strip i first) reported ≤ 1
  pub pieces : (i : ℕ) → count_by (is_piece i) reported ≤ 1
  pub order : AreReportedInOrder reported
  pub all : ended → (i : ℕ) → i < length scan.intervals → count_by (is_piece i) reported ≡ 1
