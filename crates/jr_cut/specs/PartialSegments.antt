-- Segments of a scan that are read as its bytes come.
use Rattle.std.specs.Prelude.{◌≡◌, ℕ, ◌+◌, ◌%◌, ◌<◌, ◌≤◌, ◌^◌, List, [], ◌∷◌, ◌++◌, length, map, drop}
use Rattle.std.specs.List.{All}
use Rattle.jr_base.specs.declared.marker.TheConstants.{RST0}
use Rattle.jr_cut.specs.declared.scan_end.ScanEnd.{ScanEnd}
use Rattle.jr_cut.specs.declared.partial_segments.PartialSegments.{PartialSegments}
use Rattle.jr_cut.specs.declared.stop.Stop.{Stop}
use Rattle.jr_cut.specs.declared.stop.Stop.TheVariants.{End, Restart}
use Rattle.jr_cut.specs.Cut.{marker, IsEnding}
use Rattle.jr_cut.specs.PartialCut.{AreSegments, PartialCutValue}
use Rattle.jr_cut.specs.Spans.{segment_data, IsSpanOf}

-- the data of those that have ended, and those so far of the open one
abbrev pub datas_of : PartialSegments → List (List ℕ)
datas_of o = map (segment_data o.bytes.unstuffed) o.spans.items ++ drop o.begin o.bytes.unstuffed ∷ []

abbrev pub cut_of : PartialSegments → ScanEnd → PartialCutValue
cut_of o end = record { intervals = o.intervals; segments = datas_of o; unstuffed = o.bytes.unstuffed; at = o.at; rest = o.bytes.rest; ended = end }

-- what they keep
pub record AreOpen (o : PartialSegments) : Type 0 where
  pub spans : All (IsSpanOf o.bytes.unstuffed) o.spans.items
  pub begin : o.begin ≤ length o.bytes.unstuffed
  pub few : length o.spans.items < o.intervals
  pub small : o.intervals < 2 ^ 32
  pub fits : o.at + length o.bytes.rest < 2 ^ 64

-- all of these bytes but the last, which are not read yet, are read
pub record HaveRead (start : ℕ) (bytes : List ℕ) (o : PartialSegments) : Type 0 where
  pub read : List ℕ
  pub are : AreSegments 0 read (datas_of o)
  pub spelled : bytes ≡ read ++ o.bytes.rest
  pub at : o.at ≡ start + length read

-- no bytes are lost
pub record HaveAll (old new : PartialSegments) : Type 0 where
  pub intervals : new.intervals ≡ old.intervals
  pub bytes : new.at + length new.bytes.rest ≡ old.at + length old.bytes.rest
  pub data_few : length new.bytes.unstuffed + old.at ≤ length old.bytes.unstuffed + new.at
  pub read : (start : ℕ) (bytes : List ℕ) → HaveRead start bytes old → HaveRead start bytes new

-- after segment k is the restart marker of its number, of the given number of bytes
pub record BeginsWithRestart (k : ℕ) (tail : List ℕ) (count : ℕ) : Type 0 where
  pub more : ℕ
  pub long : count ≡ more + 2
  pub spelled : tail ≡ marker more (RST0 + k % 8) ++ drop count tail

-- what follows segment k: n segments at most, the tail at that offset
abbrev pub IsStopOf : (n k at : ℕ) → List ℕ → Stop → Type 0
IsStopOf n k at tail (Restart count) = (k + 1 < n) × BeginsWithRestart k tail count
IsStopOf n k at tail (End end) = IsEnding n k at tail end
