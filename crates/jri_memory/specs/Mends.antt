-- The result of the call that mends a file in memory from copies of it.
use Rattle.std.specs.Prelude.{◌≡◌, ◌≢◌, ℕ, ◌<◌, ◌⊎◌, Bool, true, false, List, [], ◌∷◌, length, map, take, drop, sum, count_by, slice_index_or, Option, Some, None}
use Rattle.std.specs.List.{All}
use Rattle.std.specs.Option.{is_some}
use Rattle.jr_base.specs.declared.limits.TheConstants.{MAX_FILE_BYTES}
use Rattle.jr_damage.specs.Verdicts.{IsFileScan}
use Rattle.jr_head.specs.Heads.{RefusalOf}
use Rattle.jr_segments.specs.declared.refusal.Refusal.{Refusal}
use Rattle.jr_segments.specs.declared.refusal.Refusal.TheVariants as refusal
use Rattle.jr_mend.specs.declared.choice.Choice.{Choice}
use Rattle.jr_mend.specs.declared.choice.TheConstants.{MAX_COPIES}
use Rattle.jr_mend.specs.Copies.{CopyValue, HasOtherHead}
use Rattle.jr_mend.specs.Mended.{HasChosen, IsMended}
use Rattle.jri_memory.specs.Calls.{ReportsFault, over}
use Rattle.jri_memory.specs.Filling.{listed_over}
use Rattle.jri_memory.specs.declared.mend.MendFailure.{MendFailure}
use Rattle.jri_memory.specs.declared.mend.MendFailure.TheVariants.{Memory, NoCopies, Refused, OtherHeader, TooLong}
use Rattle.jri_memory.specs.declared.mend_report.ChoiceEntry.{ChoiceEntry}
use Rattle.jri_memory.specs.declared.mend_report.MendReport.{MendReport}

-- the files that lie one after another in a buffer, by their sizes
abbrev pub files_of : (sizes bytes : List ℕ) → List (List ℕ)
files_of [] bytes = []
files_of (size ∷ sizes) bytes = take size bytes ∷ files_of sizes (drop size bytes)

-- these copies are the files, each with its scan
pub record AreCopiesOf (files : List (List ℕ)) (copies : List CopyValue) : Type 0 where
  pub are : map (λ (c : CopyValue). c.file) copies ≡ files
  pub each : All (λ (c : CopyValue). IsFileScan c.file c.scan) copies

-- there are no copies, or more than there may be, or they have more bytes than are there
abbrev pub LackCopies : (sizes bytes : List ℕ) → Type 0
LackCopies sizes bytes = (length sizes ≡ 0) ⊎ ((MAX_COPIES < length sizes) ⊎ (length bytes < sum sizes))

-- the copies are mended to this file by these choices
pub record IsMendOf (files : List (List ℕ)) (choices : List Choice) (file : List ℕ) : Type 0 where
  pub copies : List CopyValue
  pub are : AreCopiesOf files copies
  pub is : IsMended copies choices file
  pub chosen : HasChosen copies choices file

-- the header of copy k is not that of the first
pub record HasOtherHeader (files : List (List ℕ)) (k : ℕ) : Type 0 where
  pub copies : List CopyValue
  pub are : AreCopiesOf files copies
  pub other : HasOtherHead copies k

-- the file to which the copies are mended would be longer than a file may be
pub record IsTooLongMend (files : List (List ℕ)) : Type 0 where
  pub copies : List CopyValue
  pub are : AreCopiesOf files copies
  pub choices : List Choice
  pub file : List ℕ
  pub is : IsMended copies choices file
  pub long : MAX_FILE_BYTES < length file

-- copy k is refused for this fault
pub record RefusesCopy (files : List (List ℕ)) (k : ℕ) (fault : Refusal) : Type 0 where
  pub there : k < length files
  pub other : fault ≢ refusal.Memory
  pub is : RefusalOf (slice_index_or files k []) fault

-- why copies are not mended; if allocation fails nothing is said of them
abbrev pub IsMendFailure : (sizes bytes : List ℕ) → MendFailure → Type 0
IsMendFailure sizes bytes Memory = Unit {0}
IsMendFailure sizes bytes NoCopies = LackCopies sizes bytes
IsMendFailure sizes bytes (Refused k fault) = RefusesCopy (files_of sizes bytes) k fault
IsMendFailure sizes bytes (OtherHeader k) = HasOtherHeader (files_of sizes bytes) k
IsMendFailure sizes bytes TooLong = IsTooLongMend (files_of sizes bytes)

-- a choice as numbers: the mark of the interval, and the number of its first MCUs that can be decoded if it is damaged
abbrev pub front_mark : Option ℕ → ℕ
front_mark None = 1
front_mark (Some mcus) = 2

abbrev pub front_mcus : Option ℕ → ℕ
front_mcus None = 0
front_mcus (Some mcus) = mcus

abbrev pub bit_of : Bool → ℕ
bit_of true = 1
bit_of false = 0

abbrev pub choice_entry : Choice → ChoiceEntry
choice_entry c = record { copy = c.copy; mark = front_mark c.front; decodable = front_mcus c.front; differs = bit_of c.differs }

-- whether the interval is damaged in all copies
abbrev pub is_damaged_choice : Choice → Bool
is_damaged_choice c = is_some c.front

-- the report's numbers are those of the mended file
pub record ReportsMend (choices : List Choice) (file : List ℕ) (t : MendReport) : Type 0 where
  pub intervals : t.intervals ≡ length choices
  pub damaged : t.damaged ≡ count_by is_damaged_choice choices
  pub size : t.size ≡ length file
  pub copy : t.copy ≡ 0
  pub no_refusal : t.refusal ≡ 0
  pub no_detail : t.detail ≡ 0

-- the mended file is at the start of a buffer, and as many of its choices as fit are listed
pub record MendsFiles (files : List (List ℕ)) (old_out out : List ℕ) (old_choices choices : List ChoiceEntry) (t : MendReport) : Type 0 where
  pub chosen : List Choice
  pub file : List ℕ
  pub is : IsMendOf files chosen file
  pub written : out ≡ over file old_out
  pub listed : choices ≡ listed_over (map choice_entry chosen) old_choices
  pub reported : ReportsMend chosen file t

-- the mended file does not fit, and the report says how long it is
pub record LacksMendSpace (files : List (List ℕ)) (space : ℕ) (t : MendReport) : Type 0 where
  pub chosen : List Choice
  pub file : List ℕ
  pub is : IsMendOf files chosen file
  pub reported : ReportsMend chosen file t
  pub less : space < t.size

-- the copy of the report is refused, and the report says why
abbrev pub ReportsCopyFault : List (List ℕ) → MendReport → Type 0
ReportsCopyFault files t = (t.copy < length files) × ReportsFault (slice_index_or files t.copy []) t.refusal t.detail

-- a report of no mended file: 0 for all but the copy's number and the refusal's two numbers
pub record ReportsNoMend (t : MendReport) : Type 0 where
  pub intervals : t.intervals ≡ 0
  pub damaged : t.damaged ≡ 0
  pub size : t.size ≡ 0
