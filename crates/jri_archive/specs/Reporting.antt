-- What is reported of files that have names.
use Rattle.std.specs.Prelude.{◌≡◌, ◌≢◌, ℕ, ◌-◌, ◌^◌, ◌<◌, ◌≤◌, ◌⊎◌, Bool, true, false, List, [], Option, Some, None, drop, length, min, nat_lt, sum_by, slice_get, slice_index_or, IfSome, if◌then◌else◌}
use Rattle.std.specs.Global.{Vec}
use Rattle.jri_machine.specs.declared.entries.ReadError.{ReadError}
use Rattle.jri_machine.specs.declared.walking.NamedFile.{NamedFile}
use Rattle.jri_archive.specs.declared.names.NamesError.{NamesError}
use Rattle.jri_archive.specs.Names.{IsNamed, IsNoText, names_left}
use Rattle.jri_archive.specs.declared.counts.CheckEnd.{CheckEnd}
use Rattle.jri_archive.specs.declared.counts.CheckEnd.TheVariants.{AllReported, NamesUnread, NamesUnended, Unwritten, Memory as NoMemory, Unrecorded}
use Rattle.jri_archive.specs.declared.counts.CheckReport.{CheckReport}
use Rattle.jri_archive.specs.declared.counts.FileCounts.{FileCounts}
use Rattle.jri_archive.specs.declared.counts.FileState.{FileState}
use Rattle.jri_archive.specs.declared.counts.FileState.TheVariants.{Sound, Damaged, Refused, Unsupported, Unread, OutOfMemory, Skipped, Changed}
use Rattle.jri_archive.specs.declared.outcome.Outcome.{Outcome}
use Rattle.jri_archive.specs.declared.outcome.Outcome.TheVariants as outcome
use Rattle.jri_archive.specs.Outcomes.{IsOutcomeOf, state_of}
use Rattle.jri_archive.specs.declared.source.Seal.{Seal}
use Rattle.jri_archive.specs.declared.state_record.FileRecord.{FileRecord}
use Rattle.jri_archive.specs.declared.state_record.Stamp.{Stamp}
use Rattle.jri_archive.specs.Records.{file_state, recorded}
use Rattle.sha2.specs.Sha256.{sha256}

-- that record of the file of that name has its size and time
abbrev pub IsStamped : (stamps : List ℕ → Stamp → Type 0) (knows : List ℕ → FileRecord → Type 0) → List ℕ → FileRecord → Type 0
IsStamped stamps knows name r = knows name r × stamps name r.stamp

-- that record of the file of that name has another size or time
abbrev pub IsOlder : (knows : List ℕ → FileRecord → Type 0) → List ℕ → Stamp → FileRecord → Type 0
IsOlder knows name stamp r = knows name r × (r.stamp ≢ stamp)

-- a record of the file of that name has its size and time, and the SHA-256 of other bytes
abbrev pub IsOther : (stamps : List ℕ → Stamp → Type 0) (knows : List ℕ → FileRecord → Type 0) → List ℕ → List ℕ → Type 0
IsOther stamps knows name bytes = (r : FileRecord) × IsStamped stamps knows name r × (r.hash ≢ sha256 bytes)

-- a check of the file of that name may come to this: the file has such bytes, cannot be read for such a reason or has a name that is not UTF-8; an unchanged one has a record of its size and time
abbrev pub IsCheckOf : (holds : List ℕ → List ℕ → Type 0) (fails : List ℕ → ReadError → Type 0) (stamps : List ℕ → Stamp → Type 0) (knows : List ℕ → FileRecord → Type 0) → List ℕ → Outcome → Type 0
IsCheckOf holds fails stamps knows name (outcome.Checked c) = (bytes : List ℕ) × holds name bytes × IsOutcomeOf bytes (outcome.Checked c)
IsCheckOf holds fails stamps knows name (outcome.Refused f) = (bytes : List ℕ) × holds name bytes × IsOutcomeOf bytes (outcome.Refused f)
IsCheckOf holds fails stamps knows name (outcome.Unread e) = fails name e ⊎ IsNoText name e
IsCheckOf holds fails stamps knows name outcome.Skipped = ⊥
IsCheckOf holds fails stamps knows name (outcome.Unchanged was) = (r : FileRecord) × IsStamped stamps knows name r × (r.state ≡ was)
IsCheckOf holds fails stamps knows name (outcome.Changed c) = (bytes : List ℕ) × holds name bytes × IsOutcomeOf bytes (outcome.Checked c) × IsOther stamps knows name bytes
IsCheckOf holds fails stamps knows name (outcome.ChangedRefused f) = (bytes : List ℕ) × holds name bytes × IsOutcomeOf bytes (outcome.Refused f) × IsOther stamps knows name bytes

-- the same of a file that was found in a directory, which may be skipped, or not read for what its entry says
abbrev pub IsFoundCheckOf : (holds : List ℕ → List ℕ → Type 0) (fails : List ℕ → ReadError → Type 0) (stamps : List ℕ → Stamp → Type 0) (knows : List ℕ → FileRecord → Type 0) → List ℕ → Outcome → Type 0
IsFoundCheckOf holds fails stamps knows name (outcome.Checked c) = IsCheckOf holds fails stamps knows name (outcome.Checked c)
IsFoundCheckOf holds fails stamps knows name (outcome.Refused f) = IsCheckOf holds fails stamps knows name (outcome.Refused f)
IsFoundCheckOf holds fails stamps knows name (outcome.Unread e) = Unit {0}
IsFoundCheckOf holds fails stamps knows name outcome.Skipped = Unit {0}
IsFoundCheckOf holds fails stamps knows name (outcome.Unchanged was) = IsCheckOf holds fails stamps knows name (outcome.Unchanged was)
IsFoundCheckOf holds fails stamps knows name (outcome.Changed c) = IsCheckOf holds fails stamps knows name (outcome.Changed c)
IsFoundCheckOf holds fails stamps knows name (outcome.ChangedRefused f) = IsCheckOf holds fails stamps knows name (outcome.ChangedRefused f)

-- what a check may come to of the file of such a name, by whether a proof knows all names
abbrev pub IsCheckBy : Option (List (List ℕ)) → (holds : List ℕ → List ℕ → Type 0) (fails : List ℕ → ReadError → Type 0) (stamps : List ℕ → Stamp → Type 0) (knows : List ℕ → FileRecord → Type 0) → List ℕ → Outcome → Type 0
IsCheckBy (Some names) = IsCheckOf
IsCheckBy None = IsFoundCheckOf

-- what a state file, if there is one, has of the file of that name
abbrev pub HasRecord : Option (List (Vec ℕ × FileRecord)) → List ℕ → FileRecord → Type 0
HasRecord None name r = ⊥
HasRecord (Some records) name r = recorded records name ≡ Some r

-- the record has the SHA-256, size and time of such bytes
abbrev pub IsSealed : Option Seal → FileRecord → Type 0
IsSealed None r = ⊥
IsSealed (Some s) r = (r.hash ≡ s.hash) × (r.stamp ≡ s.stamp)

-- the record has another SHA-256 than such bytes
abbrev pub IsOtherSeal : Option Seal → Option FileRecord → Type 0
IsOtherSeal (Some s) (Some r) = r.hash ≢ s.hash
IsOtherSeal s r = ⊥

-- a record of the file of that name: its size and time, the SHA-256 of its bytes, and what their check came to
pub record IsRecordOf (holds : List ℕ → List ℕ → Type 0) (stamps : List ℕ → Stamp → Type 0) (name : List ℕ) (r : FileRecord) (o : Outcome) : Type 0 where
  pub bytes : List ℕ
  pub held : holds name bytes
  pub hash : r.hash ≡ sha256 bytes
  pub checked : IsOutcomeOf bytes o
  pub state : file_state r.state ≡ state_of o
  pub stamp : stamps name r.stamp

-- further files can be reported
abbrev pub is_open : CheckEnd → Bool
is_open AllReported = true
is_open NamesUnread = true
is_open NamesUnended = true
is_open Unwritten = false
is_open NoMemory = false
is_open Unrecorded = false

-- 1 if two states are one
abbrev pub same_state : FileState → FileState → ℕ
same_state Sound Sound = 1
same_state Damaged Damaged = 1
same_state Refused Refused = 1
same_state Unsupported Unsupported = 1
same_state Unread Unread = 1
same_state OutOfMemory OutOfMemory = 1
same_state Skipped Skipped = 1
same_state Changed Changed = 1
same_state a b = 0

-- the number of files in that state, in 64 bits
abbrev pub count_of : FileState → List FileState → ℕ
count_of s states = min (sum_by (same_state s) states) (2 ^ 64 - 1)

-- the number of files in each state
pub record AreCounted (c : FileCounts) (states : List FileState) : Type 0 where
  pub sound : c.sound ≡ count_of Sound states
  pub damaged : c.damaged ≡ count_of Damaged states
  pub refused : c.refused ≡ count_of Refused states
  pub unsupported : c.unsupported ≡ count_of Unsupported states
  pub unread : c.unread ≡ count_of Unread states
  pub out_of_memory : c.out_of_memory ≡ count_of OutOfMemory states
  pub changed : c.changed ≡ count_of Changed states

-- file k of these names has a check that comes to that state
pub record IsReportedOf (may_be : List ℕ → Outcome → Type 0) (names : List (List ℕ)) (states : List FileState) (k : ℕ) : Type 0 where
  pub outcome : Outcome
  pub is : may_be (slice_index_or names k []) outcome
  pub state : slice_index_or states k OutOfMemory ≡ state_of outcome

-- the first files of these names are reported, each once, and counted
pub record AreReported (may_be : List ℕ → Outcome → Type 0) (names : List (List ℕ)) (reported : ℕ) (c : FileCounts) : Type 0 where
  pub states : List FileState
  pub long : length states ≡ reported
  pub counted : AreCounted c states
  pub each : (k : ℕ) → k < reported → IsReportedOf may_be names states k

-- files that have some names are reported, each once, and counted
pub record AreSomeReported (may_be : List ℕ → Outcome → Type 0) (c : FileCounts) : Type 0 where
  pub names : List (List ℕ)
  pub reported : AreReported may_be names (length names) c

-- these names, if 64 bits number them
abbrev pub numbered : Option (List (List ℕ)) → Option (List (List ℕ))
numbered None = None
numbered (Some names) = if nat_lt (length names) (2 ^ 64) then Some names else None

-- the names among the arguments, and those of the bytes that the list has, if these are known and no directory is searched
abbrev pub given_names : {L : Type 0} → (L → Option (List ℕ)) → Option L → Bool → List (Vec ℕ) → Option (List (List ℕ))
given_names remaining list false words = numbered (names_left remaining words 0 list)
given_names remaining list true words = None

-- the number of reported files, of all files if that is known, and what they came to
pub record QueueValue : Type 0 where
  pub reported : ℕ
  pub files : Option ℕ
  pub report : CheckReport

-- what is reported so far is about the files that a proof knows
pub record IsQueueOf (names : Option (List (List ℕ))) (may_be : List ℕ → Outcome → Type 0) (q : QueueValue) : Type 0 where
  pub few : (all : List (List ℕ)) → names ≡ Some all → length all < 2 ^ 64
  pub files : (all : List (List ℕ)) → names ≡ Some all → IfSome q.files (λ n. n ≡ length all)
  pub counted : is_open q.report.end ≡ true → (all : List (List ℕ)) → names ≡ Some all → AreReported may_be all q.reported q.report.counts
  pub found : is_open q.report.end ≡ true → names ≡ None → AreSomeReported may_be q.report.counts

-- a check may find that a file is skipped, or not read for any reason
abbrev pub AllowsEntries : (List ℕ → Outcome → Type 0) → Type 0
AllowsEntries may_be = (name : List ℕ) → may_be name outcome.Skipped × ((e : ReadError) → may_be name (outcome.Unread e))

-- a file that is claimed of such names: the one of its number
abbrev pub IsClaimOf : Option (List (List ℕ)) → (number : ℕ) → NamedFile → Type 0
IsClaimOf None number file = Unit {0}
IsClaimOf (Some names) number file = (name : List ℕ) × (slice_get names number ≡ Some name) × IsNamed file name

-- these of the names that a proof knows are left; once there is none, and there was no error, all are claimed
pub record IsNameQueueOf (names others : Option (List (List ℕ))) (claimed : ℕ) (is_over : Bool) (error : Option NamesError) : Type 0 where
  pub few : (all : List (List ℕ)) → names ≡ Some all → length all < 2 ^ 64
  pub within : (all : List (List ℕ)) → names ≡ Some all → is_over ≡ false → claimed ≤ length all
  pub left : (all : List (List ℕ)) → names ≡ Some all → is_over ≡ false → others ≡ Some (drop claimed all)
  pub over : (all : List (List ℕ)) → names ≡ Some all → is_over ≡ true → error ≡ None → claimed ≡ length all

-- what a check of a file comes to is what a proof expects of it
abbrev pub AreChecksOf : (holds : List ℕ → List ℕ → Type 0) (fails : List ℕ → ReadError → Type 0) (stamps : List ℕ → Stamp → Type 0) (knows : List ℕ → FileRecord → Type 0) → (may_be : List ℕ → Outcome → Type 0) → Type 0
AreChecksOf holds fails stamps knows may_be = (name : List ℕ) (o : Outcome) → IsCheckOf holds fails stamps knows name o → may_be name o
