-- The states of files, the number of files in each, and exit statuses.
use Rattle.std.specs.Prelude.{ℕ, Bool, ◌+◌, ◌-◌, ◌^◌, min, nat_lt, if◌then◌else◌}
use Rattle.jri_archive.specs.declared.counts.FileState.{FileState}
use Rattle.jri_archive.specs.declared.counts.FileState.TheVariants.{Sound, Damaged, Refused, Unsupported, Unread, OutOfMemory, Skipped, Changed}
use Rattle.jri_archive.specs.declared.counts.FileCounts.{FileCounts}
use Rattle.jri_archive.specs.declared.counts.Finding.{Finding}
use Rattle.jri_archive.specs.declared.counts.Finding.TheVariants.{NewVersion, Missing, Doubtful}
use Rattle.jri_archive.specs.declared.counts.Findings.{Findings}
use Rattle.jri_archive.specs.declared.counts.CheckEnd.{CheckEnd}
use Rattle.jri_archive.specs.declared.counts.CheckEnd.TheVariants.{AllReported, NamesUnread, NamesUnended, Unwritten, Memory as NoMemory, Unrecorded}
use Rattle.jri_archive.specs.declared.counts.CheckReport.{CheckReport}
use Rattle.jri_archive.specs.declared.state_file.StateError.{StateError}
use Rattle.jri_archive.specs.declared.state_file.StateError.TheVariants as state

-- one more, in a count of 64 bits
abbrev pub one_more : ℕ → ℕ
one_more n = min (n + 1) (2 ^ 64 - 1)

abbrev pub counts_with : FileCounts → FileState → FileCounts
counts_with c Sound = record c { sound = one_more c.sound }
counts_with c Damaged = record c { damaged = one_more c.damaged }
counts_with c Refused = record c { refused = one_more c.refused }
counts_with c Unsupported = record c { unsupported = one_more c.unsupported }
counts_with c Unread = record c { unread = one_more c.unread }
counts_with c OutOfMemory = record c { out_of_memory = one_more c.out_of_memory }
counts_with c Skipped = c
counts_with c Changed = record c { changed = one_more c.changed }

abbrev pub files_in : FileCounts → ℕ
files_in c = c.sound + (c.damaged + (c.refused + (c.unsupported + (c.unread + (c.out_of_memory + c.changed)))))

abbrev pub findings_with : Findings → Finding → Findings
findings_with f NewVersion = record f { new_versions = one_more f.new_versions }
findings_with f Missing = record f { missing = one_more f.missing }
findings_with f Doubtful = record f { doubtful = one_more f.doubtful }

abbrev pub findings_in : Findings → ℕ
findings_in f = f.new_versions + (f.missing + f.doubtful)

-- the status of files whose names and lines had no failure, with `found` findings: the first that applies of 4, 3, 1, 6, 5 and 0
abbrev pub counts_status : FileCounts → (found : ℕ) → ℕ
counts_status c found =
    if nat_lt 0 c.out_of_memory then 4 else
    if nat_lt 0 c.unread then 3 else
    if nat_lt 0 (c.damaged + (c.refused + c.changed)) then 1 else
    if nat_lt 0 found then 6 else
    if nat_lt 0 c.unsupported then 5 else 0

-- the same of an end and of files
abbrev pub status_of : CheckEnd → FileCounts → (found : ℕ) → ℕ
status_of AllReported c found = counts_status c found
status_of NamesUnread c found = if nat_lt 0 c.out_of_memory then 4 else 3
status_of NamesUnended c found = if nat_lt 0 c.out_of_memory then 4 else 3
status_of Unwritten c found = 4
status_of NoMemory c found = 4
status_of Unrecorded c found = 4

-- a state file that is not used, or not written
abbrev pub state_error_status : StateError → ℕ
state_error_status (state.Unread error) = 2
state_error_status state.InUse = 2
state_error_status (state.Damaged line) = 2
state_error_status state.Unwritten = 4
state_error_status state.Memory = 4

-- findings count if the run is strict
abbrev pub check_status : CheckReport → (is_strict : Bool) → ℕ
check_status r is_strict = status_of r.end r.counts (if is_strict then findings_in r.findings else 0)
