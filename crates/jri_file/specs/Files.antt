-- A file's scan and its image, and the fault of a file that has none.
use Rattle.std.specs.Prelude.{◌≡◌, ◌≢◌, ◌≤◌, ◌⊎◌, ℕ, ◌+◌, List, ◌++◌, length, take, Option}
use Rattle.std.specs.Option.{IfSome}
use Rattle.jr_segments.specs.declared.refusal.Refusal.{Refusal}
use Rattle.jr_segments.specs.declared.refusal.Refusal.TheVariants as refusal
use Rattle.jr_base.specs.declared.limits.TheConstants.{MAX_FILE_BYTES}
use Rattle.jr_head.specs.Heads.{HeadOf, RefusalOf}
use Rattle.jr_head.specs.HeadValue.{HeadValue}
use Rattle.jr_head.specs.Geometry.{IsValid}
use Rattle.jr_scan.specs.ScanValue.{ScanValue, IsScanOf}
use Rattle.jr_scan.specs.FirstIntervalsValue.{least}
use Rattle.jr_picture.specs.declared.mark.Mark.{Mark}
use Rattle.jr_picture.specs.Headline.{IsPicture, AreFirst, ShowsFirst}
use Rattle.jr_picture.specs.declared.report.Fault.{Fault}
use Rattle.jr_picture.specs.declared.report.Fault.TheVariants as fault

-- the header is the file's, within its limits, and the intervals are those that its scan is cut into
pub record IsScanOfFile (file : List ℕ) (scan : ScanValue) : Type 0 where
  pub head : HeadOf file scan.head
  pub valid : IsValid scan.head
  pub cut : IsScanOf file scan

-- a prefix of the file has the header, and so has every file that begins with that prefix and is not too long
pub record BeginsWithHead (file : List ℕ) (head : HeadValue) : Type 0 where
  pub front : List ℕ
  pub rest : List ℕ
  pub begins : file ≡ front ++ rest
  pub is : HeadOf front head

-- a prefix of the file fails a test that more bytes do not change: they are not those that `EndsEarly` misses, nor the first two
pub record BeginsWithFault (file : List ℕ) (f : Refusal) : Type 0 where
  pub front : List ℕ
  pub rest : List ℕ
  pub begins : file ≡ front ++ rest
  pub is : RefusalOf front f
  pub later : f ≢ refusal.EndsEarly
  pub start : 2 ≤ length front

-- a refused file, by its refusal; if memory ran out nothing is said about the file
abbrev pub fault_by : Refusal → Fault
fault_by refusal.NotJpeg = fault.Refused refusal.NotJpeg
fault_by refusal.EndsEarly = fault.Refused refusal.EndsEarly
fault_by (refusal.ExpectedMarker at) = fault.Refused (refusal.ExpectedMarker at)
fault_by (refusal.UnexpectedMarker code) = fault.Refused (refusal.UnexpectedMarker code)
fault_by (refusal.NotBaseline code) = fault.Refused (refusal.NotBaseline code)
fault_by (refusal.BadLength code) = fault.Refused (refusal.BadLength code)
fault_by refusal.BadQuantTable = fault.Refused refusal.BadQuantTable
fault_by refusal.BadCodeTable = fault.Refused refusal.BadCodeTable
fault_by refusal.SecondFrame = fault.Refused refusal.SecondFrame
fault_by refusal.BadPrecision = fault.Refused refusal.BadPrecision
fault_by refusal.BadSize = fault.Refused refusal.BadSize
fault_by refusal.TooManyPixels = fault.Refused refusal.TooManyPixels
fault_by refusal.BadComponents = fault.Refused refusal.BadComponents
fault_by refusal.BadSampling = fault.Refused refusal.BadSampling
fault_by refusal.BadScanHeader = fault.Refused refusal.BadScanHeader
fault_by refusal.NoFrame = fault.Refused refusal.NoFrame
fault_by refusal.MissingTable = fault.Refused refusal.MissingTable
fault_by refusal.TooLong = fault.Refused refusal.TooLong
fault_by refusal.Memory = fault.Memory

-- the fault of a file before anything is decoded
abbrev pub IsFaultOf : List ℕ → Fault → Type 0
IsFaultOf file fault.Read = ⊥
IsFaultOf file (fault.Refused f) = RefusalOf file f
IsFaultOf file fault.Memory = Unit {0}
IsFaultOf file fault.Write = ⊥
IsFaultOf file fault.NoFile = ⊥

-- the fault if the bytes of a file cannot be read or allocated
abbrev pub IsUnread : Fault → Type 0
IsUnread fault.Read = Unit {0}
IsUnread (fault.Refused f) = ⊥
IsUnread fault.Memory = Unit {0}
IsUnread fault.Write = ⊥
IsUnread fault.NoFile = ⊥

-- an image of the file's scan, of which the first intervals, or all, are marked
pub record IsPictureOf (file : List ℕ) (first : Option ℕ) (scan : ScanValue) (marks : List Mark) (f : ℕ → ℕ → ℕ → ℕ) : Type 0 where
  pub is_scan : IsScanOfFile file scan
  pub picture : IsPicture scan marks f
  pub decoded : AreFirst (least first (length scan.intervals)) marks

-- the file has such an image
pub record HasPictureOf (file : List ℕ) (first : Option ℕ) : Type 0 where
  pub scan : ScanValue
  pub marks : List Mark
  pub samples : ℕ → ℕ → ℕ → ℕ
  pub is : IsPictureOf file first scan marks samples

-- the scan has an image of which the first n intervals are marked, and no other
pub record HasPicture (scan : ScanValue) (n : ℕ) : Type 0 where
  pub marks : List Mark
  pub samples : ℕ → ℕ → ℕ → ℕ
  pub is : ShowsFirst scan n marks samples

-- what holds for the file that a reader has left, if its bytes are known: all of them, or one more than a file may have
abbrev pub OfFile : Option (List ℕ) → (List ℕ → Type 0) → Type 0
OfFile remaining holds = IfSome remaining (λ bytes. holds (take (MAX_FILE_BYTES + 1) bytes))

-- the fault of what a reader has left before anything is decoded
abbrev pub IsFaultOfInput : Option (List ℕ) → Fault → Type 0
IsFaultOfInput remaining fault.Read = Unit {0}
IsFaultOfInput remaining (fault.Refused f) = OfFile remaining (λ file. RefusalOf file f)
IsFaultOfInput remaining fault.Memory = Unit {0}
IsFaultOfInput remaining fault.Write = ⊥
IsFaultOfInput remaining fault.NoFile = ⊥

-- the fault of what a reader has left, by its header: that of all of it, or of a prefix
abbrev pub IsHeaderFaultOfInput : Option (List ℕ) → Fault → Type 0
IsHeaderFaultOfInput remaining fault.Read = Unit {0}
IsHeaderFaultOfInput remaining (fault.Refused f) = OfFile remaining (λ file. RefusalOf file f ⊎ BeginsWithFault file f)
IsHeaderFaultOfInput remaining fault.Memory = Unit {0}
IsHeaderFaultOfInput remaining fault.Write = ⊥
IsHeaderFaultOfInput remaining fault.NoFile = ⊥
