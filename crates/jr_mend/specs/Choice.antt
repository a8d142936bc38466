-- Which of several versions of a restart interval is chosen (T.81, E.1.4 and E.2.4).
use Rattle.std.specs.Prelude.{◌≡◌, ◌≢◌, ℕ, ◌<◌, ◌≤◌, Bool, true, false, List, take, slice_get, Option, Some, None}
use Rattle.std.specs.List.{All, Contains}
use Rattle.jr_scan.specs.IntervalValue.{IntervalValue}
use Rattle.jr_scan.specs.Mcus.{HasDecoding, HasNoDecoding, HasLongestFront}
use Rattle.jr_mend.specs.declared.choice.Choice.{Choice}

-- version n is the first that has a decoding; or none has, and it is the first of those with the longest decodable prefix
abbrev pub IsBest : (versions : List IntervalValue) (n : ℕ) → IntervalValue → Option ℕ → Type 0
IsBest versions n chosen None = All HasNoDecoding (take n versions) × HasDecoding chosen
IsBest versions n chosen (Some mcus) =
    All HasNoDecoding versions × HasLongestFront chosen mcus × All (λ v. (k : ℕ) → HasLongestFront v k → k < mcus) (take n versions)
    × All (λ v. (k : ℕ) → HasLongestFront v k → k ≤ mcus) versions

-- two versions have decodings and different data
pub record Differ (versions : List IntervalValue) : Type 0 where
  pub one : IntervalValue
  pub other : IntervalValue
  pub has_one : Contains versions one
  pub has_other : Contains versions other
  pub one_sound : HasDecoding one
  pub other_sound : HasDecoding other
  pub are : one.bytes ≢ other.bytes

-- whether two do
abbrev pub ReportsDiffer : List IntervalValue → Bool → Type 0
ReportsDiffer versions true = Differ versions
ReportsDiffer versions false = Differ versions → ⊥

-- this version is chosen, and what is reported of it
pub record IsChoiceOf (versions : List IntervalValue) (chosen : IntervalValue) (c : Choice) : Type 0 where
  pub is : slice_get versions c.copy ≡ Some chosen
  pub best : IsBest versions c.copy chosen c.front
  pub differs : ReportsDiffer versions c.differs
