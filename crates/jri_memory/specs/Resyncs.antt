-- The bytes that a call reads of a file, and the result of the call that resynchronises one.
use Rattle.std.specs.Prelude.{◌≡◌, ◌≢◌, ℕ, zero, suc, ◌<◌, List, length}
use Rattle.jr_cut.specs.declared.scan_end.ScanEnd.{ScanEnd}
use Rattle.jr_head.specs.HeadValue.{HeadValue}
use Rattle.jr_head.specs.Heads.{HeadOf, RefusalOf}
use Rattle.jr_segments.specs.declared.refusal.Refusal.TheVariants.{Memory}
use Rattle.jr_cut.specs.declared.breaks.Break.{Break}
use Rattle.jr_mend.specs.declared.resync.Resynced.{Resynced}
use Rattle.jr_mend.specs.Reading.{Becomes, IsResynced, IsTooLong}
use Rattle.jri_memory.specs.Calls.{IsScanEnd, over}
use Rattle.jri_memory.specs.Filling.{listed_over}
use Rattle.jri_memory.specs.declared.resync.ResyncError.{ResyncError}
use Rattle.jri_memory.specs.declared.resync.ResyncError.TheVariants.{Refused, TooLong}
use Rattle.jri_memory.specs.declared.resync.ResyncReport.{ResyncReport}

-- the file has a header, and this is the file with its restart markers in step
pub record IsResyncOfFile (file : List ℕ) (r : Resynced) : Type 0 where
  pub head : HeadValue
  pub is : HeadOf file head
  pub resynced : IsResynced file head r

-- it has a header, and with its restart markers in step it would be longer than a file may be
pub record IsTooLongFile (file : List ℕ) : Type 0 where
  pub head : HeadValue
  pub is : HeadOf file head
  pub long : IsTooLong file head

-- the file has a header, and becomes this one once its restart markers are in step
pub record BecomesFile (file new : List ℕ) : Type 0 where
  pub head : HeadValue
  pub breaks : List Break
  pub ended : ScanEnd
  pub is : HeadOf file head
  pub becomes : Becomes file head new breaks ended

-- the bytes that a call reads, by the number that a caller passes: with 0 those of the file, otherwise those of the
-- resynchronised file
abbrev pub IsReadAs : List ℕ → ℕ → List ℕ → Type 0
IsReadAs file zero read = read ≡ file
IsReadAs file (suc n) read = BecomesFile file read

-- this holds for the bytes that are read
pub record OfRead (file : List ℕ) (resync : ℕ) (holds : List ℕ → Type 0) : Type 0 where
  pub read : List ℕ
  pub is : IsReadAs file resync read
  pub here : holds read

-- the bytes to be read are those of a resynchronised file that would be longer than a file may be
abbrev pub IsTooLongRead : List ℕ → ℕ → Type 0
IsTooLongRead file zero = ⊥
IsTooLongRead file (suc n) = IsTooLongFile file

-- why a file is not resynchronised; if allocation fails nothing is said of the file
abbrev pub IsResyncError : List ℕ → ResyncError → Type 0
IsResyncError file (Refused f) = f ≢ Memory → RefusalOf file f
IsResyncError file TooLong = IsTooLongFile file

-- the report's numbers are those of the resynchronised file
pub record ReportsResync (r : Resynced) (t : ResyncReport) : Type 0 where
  pub size : t.size ≡ length r.file.items
  pub breaks : t.breaks ≡ length r.breaks.items
  pub ended : IsScanEnd r.ended t.ended t.found t.due t.at
  pub no_refusal : t.refusal ≡ 0
  pub no_detail : t.detail ≡ 0

-- the resynchronised file is at the start of a buffer, and as many of its breaks as fit are listed
pub record ResyncsFile (file old_out out : List ℕ) (old_breaks breaks : List Break) (t : ResyncReport) : Type 0 where
  pub resynced : Resynced
  pub is : IsResyncOfFile file resynced
  pub written : out ≡ over resynced.file.items old_out
  pub listed : breaks ≡ listed_over resynced.breaks.items old_breaks
  pub reported : ReportsResync resynced t

-- the resynchronised file does not fit, and the report says how long it is
pub record LacksResyncSpace (file : List ℕ) (space : ℕ) (t : ResyncReport) : Type 0 where
  pub resynced : Resynced
  pub is : IsResyncOfFile file resynced
  pub reported : ReportsResync resynced t
  pub less : space < t.size

-- a report of no resynchronised file: 0 for all but the refusal's two numbers
pub record ReportsNoResync (t : ResyncReport) : Type 0 where
  pub ended : t.ended ≡ 0
  pub found : t.found ≡ 0
  pub due : t.due ≡ 0
  pub size : t.size ≡ 0
  pub breaks : t.breaks ≡ 0
  pub at : t.at ≡ 0
