-- What a run writes of a file that is resynchronised.
use Rattle.std.specs.Prelude.{◌≡◌, ◌⊎◌, ℕ, List, Option}
use Rattle.jr_segments.specs.declared.refusal.Refusal.{Refusal}
use Rattle.jr_segments.specs.declared.refusal.Refusal.TheVariants.{TooLong}
use Rattle.jr_head.specs.HeadValue.{HeadValue}
use Rattle.jr_head.specs.Heads.{HeadOf, RefusalOf}
use Rattle.jr_scan.specs.ScanValue.{ScanValue}
use Rattle.jr_cut.specs.declared.scan_end.ScanEnd.{ScanEnd}
use Rattle.jr_cut.specs.declared.breaks.Break.{Break}
use Rattle.jr_mend.specs.Reading.{Becomes, IsTooLong}
use Rattle.jr_picture.specs.declared.report.Fault.{Fault}
use Rattle.jr_picture.specs.declared.report.Fault.TheVariants as fault
use Rattle.jri_file.specs.Files.{IsScanOfFile, OfFile}
use Rattle.jri_engine.specs.declared.resync.ResyncedReport.{ResyncedReport}
use Rattle.jri_engine.specs.Files.{BeginsFile, PaintsFile}

-- the file has a header, and becomes this one, with these breaks, once its restart markers are in step
pub record Resyncs (file new : List ℕ) (breaks : List Break) : Type 0 where
  pub head : HeadValue
  pub ended : ScanEnd
  pub is_head : HeadOf file head
  pub is : Becomes file head new breaks ended

-- an image of the resynchronised file was appended; the report is of its marks, and the breaks are the damaged file's
pub record PaintsResynced (file : List ℕ) (first : Option ℕ) (report : ResyncedReport) (old new : Option (List ℕ)) : Type 0 where
  pub resynced : List ℕ
  pub is : Resyncs file resynced report.breaks.items
  pub painted : PaintsFile resynced first report.report old new

-- a beginning of it was
pub record BeginsResynced (file : List ℕ) (first : Option ℕ) (old new : Option (List ℕ)) : Type 0 where
  pub resynced : List ℕ
  pub breaks : List Break
  pub is : Resyncs file resynced breaks
  pub begun : BeginsFile resynced first old new

-- the scan and the breaks of the resynchronised file
pub record HasResyncedScan (file : List ℕ) (scan : ScanValue) (breaks : List Break) : Type 0 where
  pub resynced : List ℕ
  pub is : Resyncs file resynced breaks
  pub is_scan : IsScanOfFile resynced scan

-- the file has a header, and the file that it would become is too long
pub record BecomesTooLong (file : List ℕ) : Type 0 where
  pub head : HeadValue
  pub is_head : HeadOf file head
  pub long : IsTooLong file head

-- the file is refused, or the file that it would become is
abbrev pub RefusesResync : List ℕ → Refusal → Type 0
RefusesResync file f = RefusalOf file f ⊎ ((f ≡ TooLong) × BecomesTooLong file)

-- the fault of a file before anything is decoded
abbrev pub IsResyncFaultOf : List ℕ → Fault → Type 0
IsResyncFaultOf file fault.Read = ⊥
IsResyncFaultOf file (fault.Refused f) = RefusesResync file f
IsResyncFaultOf file fault.Memory = Unit {0}
IsResyncFaultOf file fault.Write = ⊥
IsResyncFaultOf file fault.NoFile = ⊥

-- the same of what a reader has left
abbrev pub IsResyncFaultOfInput : Option (List ℕ) → Fault → Type 0
IsResyncFaultOfInput remaining fault.Read = Unit {0}
IsResyncFaultOfInput remaining (fault.Refused f) = OfFile remaining (λ file. RefusesResync file f)
IsResyncFaultOfInput remaining fault.Memory = Unit {0}
IsResyncFaultOfInput remaining fault.Write = ⊥
IsResyncFaultOfInput remaining fault.NoFile = ⊥
