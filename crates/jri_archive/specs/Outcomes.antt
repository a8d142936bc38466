-- What a check of a file comes to.
use Rattle.std.specs.Prelude.{◌≡◌, ◌≢◌, ℕ, ◌==◌, List, length, if◌then◌else◌}
use Rattle.jr_segments.specs.declared.refusal.Refusal.TheVariants as refusal
use Rattle.jr_segments.specs.Refusal.{may_be_valid}
use Rattle.jr_head.specs.Heads.{RefusalOf}
use Rattle.jr_scan.specs.ImageEnd.{IsImageEndIn}
use Rattle.jri_archive.specs.declared.counts.FileState.{FileState}
use Rattle.jri_archive.specs.declared.counts.FileState.TheVariants.{Sound, Damaged, Refused, Unsupported, Unread, OutOfMemory, Skipped, Changed}
use Rattle.jri_machine.specs.declared.entries.ReadError.TheVariants as read
use Rattle.jri_archive.specs.declared.outcome.Outcome.{Outcome}
use Rattle.jri_archive.specs.declared.outcome.Outcome.TheVariants as outcome
use Rattle.jri_archive.specs.DamagedLines.{AreUndecoded}
use Rattle.jri_archive.specs.Records.{file_state}
use Rattle.jr_damage.specs.Verdicts.{IsFileScan, IsVerdictOf}

-- the file's size and scan, where its image ends and what is damaged of it, or its first fault; if memory ran out nothing is said of it
abbrev pub IsOutcomeOf : List ℕ → Outcome → Type 0
IsOutcomeOf file (outcome.Checked c) = (c.size ≡ length file) × IsFileScan file c.scan × IsImageEndIn file c.scan c.image_end × IsVerdictOf c.scan (length c.scan.intervals) c.verdict × AreUndecoded c.scan c.verdict.lines c.lines
IsOutcomeOf file (outcome.Refused fault) = fault ≢ refusal.Memory → RefusalOf file fault
IsOutcomeOf file (outcome.Unread error) = ⊥
IsOutcomeOf file outcome.Skipped = ⊥
IsOutcomeOf file (outcome.Unchanged was) = ⊥
IsOutcomeOf file (outcome.Changed c) = ⊥
IsOutcomeOf file (outcome.ChangedRefused fault) = ⊥

-- the same without saying that the bytes are not those of a record
abbrev pub plain_outcome : Outcome → Outcome
plain_outcome (outcome.Checked c) = outcome.Checked c
plain_outcome (outcome.Refused fault) = outcome.Refused fault
plain_outcome (outcome.Unread error) = outcome.Unread error
plain_outcome outcome.Skipped = outcome.Skipped
plain_outcome (outcome.Unchanged was) = outcome.Unchanged was
plain_outcome (outcome.Changed c) = outcome.Checked c
plain_outcome (outcome.ChangedRefused fault) = outcome.Refused fault

-- what became of the file
abbrev pub state_of : Outcome → FileState
state_of (outcome.Checked c) = if c.verdict.damaged == 0 then Sound else Damaged
state_of (outcome.Refused refusal.Memory) = OutOfMemory
state_of (outcome.Refused fault) = if may_be_valid fault then Unsupported else Refused
state_of (outcome.Unread read.Memory) = OutOfMemory
state_of (outcome.Unread error) = Unread
state_of outcome.Skipped = Skipped
state_of (outcome.Unchanged was) = file_state was
state_of (outcome.Changed c) = Changed
state_of (outcome.ChangedRefused fault) = Changed
