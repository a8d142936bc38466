-- What is written of a scan is written of its file.
use Rattle.std.proofs.Common.{◌≡◌, ◌⊎◌, ℕ, ◌+◌, subst, sym, true, false, List, Option, Some, None, Result, Ok, Err, IfErr, IfOk, OnOk, inl, inr, length, take, ◌∙◌}
use Rattle.jr_base.specs.declared.limits.TheConstants.{MAX_FILE_BYTES}
use Rattle.jr_base.specs.declared.tally.Tally.{Tally}
use Rattle.jr_base.specs.Tally.{has_failed, known_in}
use Rattle.jr_scan.specs.ScanValue.{ScanValue}
use Rattle.jr_scan.specs.FirstIntervalsValue.{least}
use Rattle.jr_picture.specs.declared.counts.Counts.{Counts}
use Rattle.jr_picture.specs.Writing.{BeginsPicture, WritesPicture}
use Rattle.jr_picture.specs.declared.picture_error.PictureError.{PictureError}
use Rattle.jr_picture.specs.declared.picture_error.PictureError.TheVariants.{Memory as Wanting, Write as Stopped}
use Rattle.jr_picture.specs.declared.report.Report.{Report}
use Rattle.jr_picture.specs.declared.report.Fault.{Fault}
use Rattle.jr_picture.specs.declared.report.Fault.TheVariants as fault
use Rattle.jr_segments.specs.declared.refusal.Refusal.{Refusal}
use Rattle.jr_head.specs.Heads.{RefusalOf}
use Rattle.jri_file.specs.Files.{IsFaultOfInput, IsScanOfFile, OfFile}
use Rattle.jri_engine.specs.Files.{BeginsFile, BeginsImage, Paints, PaintsFile}

module _ {T : Type 0} (known : T → Option (List ℕ)) (old new : Tally T) (scan : ScanValue) (first : Option ℕ) where
  pub scan_paints : (counts : Counts) (report : Report) → WritesPicture known old new scan (least first (length scan.intervals)) counts → report.intervals ≡ length scan.intervals
      → report.sound ≡ counts.sound → report.damaged ≡ counts.damaged → report.blank ≡ counts.blank → report.ended ≡ scan.ended
      → (file : List ℕ) → IsScanOfFile file scan → PaintsFile file first report (known_in known old) (known_in known new)
  scan_paints counts report w intervals sound damaged blank ended file is = record {
    scan = scan;
    marks = w.marks;
    f = w.f;
    is = record { is_scan = is; picture = w.shows.picture; decoded = w.shows.first };
    appended = w.text;
    reported = record { intervals = intervals; counts = rw sound (rw damaged (rw blank w.counted)); ended = ended };
  }

  pub scan_begins : BeginsPicture known old new scan (least first (length scan.intervals)) → (file : List ℕ) → IsScanOfFile file scan → BeginsFile file first (known_in known old) (known_in known new)
  scan_begins w file is = record {
    scan = scan;
    marks = w.marks;
    f = w.f;
    is = record { is_scan = is; picture = w.shows.picture; decoded = w.shows.first };
    front = w.front;
  }

-- a scan's image is written, or begun, by this result
abbrev pub Wrote : {T : Type 0} (known : T → Option (List ℕ)) (old : Tally T) (first : Option ℕ) → ScanValue → Tally T → Result Counts PictureError → Type 0
Wrote known old first scan new w = let n = least first (length scan.intervals) in
    IfOk w (λ c. WritesPicture known old new scan n c) × (w ≡ Err Stopped → BeginsPicture known old new scan n)

pub wrote : {T : Type 0} (known : T → Option (List ℕ)) (old : Tally T) (first : Option ℕ) (scan s : ScanValue) (new n : Tally T) (w v : Result Counts PictureError) → s ≡ scan → new ≡ n → w ≡ v → Wrote known old first s n v → Wrote known old first scan new w
wrote known old first scan s new n w v e f g h =
    subst (λ (t : ScanValue). Wrote known old first t new w) e (subst (λ (o : Tally _). Wrote known old first s o w) (sym f) (subst (Wrote known old first s n) (sym g) h))

-- what holds for the file if something else does
pub of_file : (left : Option (List ℕ)) (P Q : List ℕ → Type 0) → ((file : List ℕ) → P file → Q file) → OfFile left P → OfFile left Q
of_file None P Q f holds = tt
of_file (Some bytes) P Q f holds = f (take (MAX_FILE_BYTES + 1) bytes) holds

-- the file that is read has this scan
pub input_paints : (left : Option (List ℕ)) (first : Option ℕ) (scan : ScanValue) (old new : Option (List ℕ)) (r : Result Report Fault) → ((file : List ℕ) → IsScanOfFile file scan → IfOk r (λ report. PaintsFile file first report old new))
    → OfFile left (λ file. IsScanOfFile file scan) → IfOk r (λ report. Paints left first report old new)
input_paints left first scan old new (Ok report) painted is = of_file left (λ file. IsScanOfFile file scan) (λ file. PaintsFile file first report old new) painted is
input_paints left first scan old new (Err f) painted is = tt

pub input_begins : (left : Option (List ℕ)) (first : Option ℕ) (scan : ScanValue) (old new : Option (List ℕ)) → ((file : List ℕ) → IsScanOfFile file scan → BeginsFile file first old new)
    → OfFile left (λ file. IsScanOfFile file scan) → BeginsImage left first old new
input_begins left first scan old new begun is = of_file left (λ file. IsScanOfFile file scan) (λ file. BeginsFile file first old new) begun is

-- the faults of writing
abbrev pub IsOfWriting : Fault → Type 0
IsOfWriting fault.Read = ⊥
IsOfWriting (fault.Refused f) = ⊥
IsOfWriting fault.Memory = Unit {0}
IsOfWriting fault.Write = Unit {0}
IsOfWriting fault.NoFile = ⊥

pub of_writing : (f : Fault) → (f ≡ fault.Memory) ⊎ (f ≡ fault.Write) → IsOfWriting f
of_writing f (inl e) = subst IsOfWriting (sym e) tt
of_writing f (inr e) = subst IsOfWriting (sym e) tt

pub err_of_writing : {T : Type 0} (r : Result T Fault) (f : Fault) → IfErr r (λ x. (x ≡ fault.Memory) ⊎ (x ≡ fault.Write)) → r ≡ Err f → IsOfWriting f
err_of_writing r f is e = of_writing f (subst (λ (q : Result _ Fault). IfErr q (λ x. (x ≡ fault.Memory) ⊎ (x ≡ fault.Write))) e is)

-- the output after a write with this result
abbrev pub Left : {T : Type 0} → Tally T → Tally T → Result Counts PictureError → Type 0
Left old new w = (w ≡ Err Wanting → new ≡ old) × OnOk w (has_failed new ≡ false) × (w ≡ Err Stopped → has_failed new ≡ true)

pub left : {T : Type 0} (old new n : Tally T) (w v : Result Counts PictureError) → new ≡ n → w ≡ v → Left old n v → Left old new w
left old new n w v g h l = subst (λ (o : Tally _). Left old o w) (sym g) (subst (Left old n) (sym h) l)

-- the fault of a file that is read whole, and of no other kind
module _ (left : Option (List ℕ)) {T : Type 0} (r : Result T Fault) (f : Fault) (e : r ≡ Err f) (is : IsFaultOfInput left f) where
  stated : (x : Fault) → r ≡ Err x → IsFaultOfInput left x
  stated x w = let z : ◌≡◌ {A = Result T Fault} (Err f) (Err x) = sym e ∙ w in let same : f ≡ x = cc in subst (IsFaultOfInput left) same is

  pub unwritten_fault : r ≡ Err fault.Write → ⊥
  unwritten_fault w = stated fault.Write w

  pub opened_fault : r ≡ Err fault.NoFile → ⊥
  opened_fault w = stated fault.NoFile w

  pub refused_fault : (x : Refusal) → r ≡ Err (fault.Refused x) → OfFile left (λ file. RefusalOf file x)
  refused_fault x w = stated (fault.Refused x) w
