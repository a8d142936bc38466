-- A file whose intervals are taken from copies of it.
use Rattle.std.specs.Prelude.{◌≡◌, ℕ, ◌<◌, List, [], length, slice_get, slice_index_or, slice_range, Some}
use Rattle.jr_base.specs.declared.limits.TheConstants.{MAX_FILE_BYTES}
use Rattle.jr_cut.specs.declared.scan_end.ScanEnd.TheVariants.{EndOfImage}
use Rattle.jr_cut.specs.declared.file_segments.CodedSpan.{CodedSpan}
use Rattle.jr_damage.specs.Coded.{IsSegmentOf}
use Rattle.jr_damage.specs.Verdicts.{IsFileScan}
use Rattle.jr_scan.specs.ScanValue.{ScanValue, interval_of, intervals_of}
use Rattle.jr_mend.specs.declared.choice.Choice.{Choice}
use Rattle.jr_mend.specs.declared.mending.MendError.{MendError}
use Rattle.jr_mend.specs.declared.mending.MendError.TheVariants as error
use Rattle.jr_mend.specs.Choice.{IsChoiceOf}
use Rattle.jr_mend.specs.Copies.{CopyValue, HasOtherHead, versions_of}
use Rattle.jr_mend.specs.Splice.{spliced}

-- these are the bytes of interval i in the copy that is chosen for it
pub record IsTaken (copies : List CopyValue) (i : ℕ) (c : Choice) (raw : List ℕ) : Type 0 where
  pub copy : CopyValue
  pub is : slice_get copies c.copy ≡ Some copy
  pub choice : IsChoiceOf (versions_of copies i) (interval_of copy.scan i) c
  pub span : CodedSpan
  pub segment : IsSegmentOf copy.file copy.scan i span
  pub are : raw ≡ slice_range copy.file span.start span.end

-- the bytes of the first intervals, and the choices by which they are taken
pub record AreTaken (copies : List CopyValue) (choices : List Choice) (raws : List (List ℕ)) : Type 0 where
  pub count : length choices ≡ length raws
  pub each : (i : ℕ) (c : Choice) → i < length raws → IsTaken copies i (slice_index_or choices i c) (slice_index_or raws i [])

-- the file is the header of the first copy and the bytes of all intervals
pub record IsMended (copies : List CopyValue) (choices : List Choice) (file : List ℕ) : Type 0 where
  pub first : CopyValue
  pub is_first : slice_get copies 0 ≡ Some first
  pub raws : List (List ℕ)
  pub taken : AreTaken copies choices raws
  pub all : length raws ≡ intervals_of first.scan.head
  pub written : file ≡ spliced first.file first.scan.head raws

-- the file has a scan with the header of the first copy, in which each interval is the version that is chosen
pub record HasChosen (copies : List CopyValue) (choices : List Choice) (file : List ℕ) : Type 0 where
  pub scan : ScanValue
  pub is : IsFileScan file scan
  pub ended : scan.ended ≡ EndOfImage
  pub head : (c : CopyValue) → scan.head ≡ (slice_index_or copies 0 c).scan.head
  pub all : length choices ≡ intervals_of scan.head
  pub chosen : (i : ℕ) (c : Choice) → i < length choices → IsChoiceOf (versions_of copies i) (interval_of scan i) (slice_index_or choices i c)

-- why there is no mended file; if allocation fails nothing is said of the copies
abbrev pub IsErrorOf : List CopyValue → MendError → Type 0
IsErrorOf copies error.Memory = Unit {0}
IsErrorOf copies (error.OtherHead k) = HasOtherHead copies k
IsErrorOf copies error.TooLong = (choices : List Choice) × (file : List ℕ) × IsMended copies choices file × (MAX_FILE_BYTES < length file)
