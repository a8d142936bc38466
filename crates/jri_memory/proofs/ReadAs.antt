-- The scan of the bytes that a call reads of a file.
use Rattle.std.proofs.Common.{◌≡◌, ◌≢◌, ℕ, zero, suc, List, [], Result, Ok, Err, IfOk, refl, sym, subst, arith}
use Rattle.jr_cut.specs.declared.scan_end.ScanEnd.TheVariants.{EndOfImage}
use Rattle.jr_head.specs.HeadValue.{HeadValue}
use Rattle.jr_mend.specs.Reading.{IsFileInStep}
use Rattle.jr_mend.proofs.ResyncedInStep.{in_step_is_resynced}
use Rattle.jr_scan.specs.ScanValue.{ScanValue}
use Rattle.jri_file.specs.Files.{IsScanOfFile}
use Rattle.jri_memory.specs.Resyncs.{IsTooLongFile, IsTooLongRead, OfRead}

-- a caller's number other than 0 counts as 1
pub read_in_step : (file : List ℕ) (resync : ℕ) (holds : List ℕ → Type 0) → resync ≢ 0 → OfRead file 1 holds → OfRead file resync holds
read_in_step file zero holds some is = absurd (some refl)
read_in_step file (suc n) holds some is = record { read = is.read; is = is.is; here = is.here }

pub too_long_in_step : (file : List ℕ) (resync : ℕ) → resync ≢ 0 → IsTooLongFile file → IsTooLongRead file resync
too_long_in_step file zero some is = absurd (some refl)
too_long_in_step file (suc n) some is = is

-- the scan of a file is that of the resynchronised file if its restart markers are in step
pub in_step : (file : List ℕ) (s : ScanValue) → IsScanOfFile file s → IsFileInStep file s.head → OfRead file 1 (λ read. IsScanOfFile read s)
in_step file s is due =
    let becomes = in_step_is_resynced file s is.head is.cut due in
    record {
      read = becomes.0;
      is = record { head = s.head; breaks = []; ended = EndOfImage; is = is.head; becomes = becomes.1 };
      here = record { head = becomes.1.head; valid = is.valid; cut = becomes.2 };
    }

-- the scan of a file that is read as it is, or whose restart markers are in step
pub own : {E : Type 0} (file : List ℕ) (resync : ℕ) (h : HeadValue) (r : Result ScanValue E) → (resync ≢ 0 → IsFileInStep file h) → IfOk r (λ s. s.head ≡ h) → IfOk r (IsScanOfFile file)
    → IfOk r (λ s. OfRead file resync (λ read. IsScanOfFile read s))
own file zero h (Ok s) why same is = record { read = file; is = refl; here = is }
own file (suc n) h (Ok s) why same is =
    let here : IsFileInStep file s.head = subst (IsFileInStep file) (sym same) (why (λ no. omega (arith, no))) in
    read_in_step file (suc n) (λ read. IsScanOfFile read s) (λ no. omega (arith, no)) (in_step file s is here)
own file resync h (Err e) why same is = tt

-- the scan of a file that is resynchronised
pub resynced : {E : Type 0} (file : List ℕ) (resync : ℕ) (r : Result ScanValue E) → resync ≢ 0 → IfOk r (λ s. OfRead file 1 (λ read. IsScanOfFile read s)) → IfOk r (λ s. OfRead file resync (λ read. IsScanOfFile read s))
resynced file resync (Ok s) some is = read_in_step file resync (λ read. IsScanOfFile read s) some is
resynced file resync (Err e) some is = tt
