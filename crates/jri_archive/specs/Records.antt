-- What a state file has of files.
use Rattle.std.specs.Prelude.{ℕ, List, Option, nat_eq}
use Rattle.std.specs.Cmp.Lexicographic.{pointwise}
use Rattle.std.specs.Map.{lookup}
use Rattle.std.specs.Global.{Vec}
use Rattle.jri_archive.specs.declared.counts.FileState.{FileState}
use Rattle.jri_archive.specs.declared.counts.FileState.TheVariants as file
use Rattle.jri_archive.specs.declared.state_record.FileRecord.{FileRecord}
use Rattle.jri_archive.specs.declared.state_record.RecordedState.{RecordedState}
use Rattle.jri_archive.specs.declared.state_record.RecordedState.TheVariants.{Sound, Damaged, Refused, Unsupported}

-- what became of a file that is recorded
abbrev pub file_state : RecordedState → FileState
file_state Sound = file.Sound
file_state Damaged = file.Damaged
file_state Refused = file.Refused
file_state Unsupported = file.Unsupported

-- what is recorded under that name
abbrev pub recorded : List (Vec ℕ × FileRecord) → List ℕ → Option FileRecord
recorded records name = lookup (λ k. pointwise nat_eq name k.items) records
