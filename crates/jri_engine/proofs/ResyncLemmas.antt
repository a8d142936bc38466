-- What is read of an input, and what its file becomes.
use Rattle.std.proofs.Common.{◌≡◌, ℕ, List, [], Option, Result, Ok, Err, IfOk, IfErr, inl, sym, subst, ◌∙◌}
use Rattle.jr_cut.specs.declared.scan_end.ScanEnd.TheVariants.{EndOfImage}
use Rattle.jr_head.specs.HeadValue.{HeadValue}
use Rattle.jr_cut.specs.declared.breaks.Break.{Break}
use Rattle.jr_mend.specs.declared.resync.Resynced.{Resynced}
use Rattle.jr_mend.specs.Reading.{Becomes, IsFileInStep, IsResynced}
use Rattle.jr_mend.proofs.ResyncedInStep.{in_step_is_resynced}
use Rattle.jr_scan.specs.ScanValue.{ScanValue}
use Rattle.jr_head.specs.Heads.{HeadOf, RefusalOf}
use Rattle.jr_segments.specs.declared.refusal.Refusal.{Refusal}
use Rattle.jr_picture.specs.declared.report.Fault.{Fault}
use Rattle.jr_picture.specs.declared.report.Fault.TheVariants as fault
use Rattle.jri_file.specs.Files.{IsFaultOfInput, IsScanOfFile, OfFile}
use Rattle.jri_engine.specs.declared.resync.ResyncedReport.{ResyncedReport}
use Rattle.jri_engine.specs.Files.{BeginsFile, PaintsFile}
use Rattle.jri_engine.proofs.PaintsLemmas.{of_file}
use Rattle.jri_engine.specs.Resync.{BeginsResynced, HasResyncedScan, IsResyncFaultOf, IsResyncFaultOfInput, PaintsResynced, RefusesResync}

-- the scan of the resynchronised file
pub has_scan : {T E : Type 0} (scan : T → ScanValue) (breaks : T → List Break) (file : List ℕ) (h : HeadValue) (resynced : Resynced) → HeadOf file h → IsResynced file h resynced
    → (r : Result T E) → IfOk r (λ x. IsScanOfFile resynced.file.items (scan x)) → IfOk r (λ x. breaks x ≡ resynced.breaks.items) → IfOk r (λ x. HasResyncedScan file (scan x) (breaks x))
has_scan scan breaks file h resynced is_head is (Ok x) is_scan same =
    let becomes = subst (λ (b : List Break). Becomes file h resynced.file.items b resynced.ended) (sym same) is in
    record { resynced = resynced.file.items; is = record { head = h; ended = resynced.ended; is_head = is_head; is = becomes }; is_scan = is_scan }
has_scan scan breaks file h resynced is_head is (Err e) is_scan same = tt

-- the scan of a file whose restart markers are in step, and no breaks
pub own_scan : (file : List ℕ) (h : HeadValue) (s : ScanValue) (breaks : List Break) → IsFileInStep file h → s.head ≡ h → IsScanOfFile file s → breaks ≡ [] → HasResyncedScan file s breaks
own_scan file h s breaks in_step same is none =
    let here = subst (IsFileInStep file) (sym same) in_step in
    let becomes = in_step_is_resynced file s is.head is.cut here in
    record {
      resynced = becomes.0;
      is = record { head = s.head; ended = EndOfImage; is_head = is.head; is = subst (λ (b : List Break). Becomes file s.head becomes.0 b EndOfImage) (sym none) becomes.1 };
      is_scan = record { head = becomes.1.head; valid = is.valid; cut = becomes.2 };
    }

module _ (left : Option (List ℕ)) (first : Option ℕ) (scan : ScanValue) (old new : Option (List ℕ)) where
  -- its image is that of the scan
  pub paints : (report : ResyncedReport) → ((file : List ℕ) → IsScanOfFile file scan → PaintsFile file first report.report old new) → OfFile left (λ file. HasResyncedScan file scan report.breaks.items)
      → OfFile left (λ file. PaintsResynced file first report old new)
  paints report painted has =
      of_file left (λ file. HasResyncedScan file scan report.breaks.items) (λ file. PaintsResynced file first report old new)
      (λ file h. record { resynced = h.resynced; is = h.is; painted = painted h.resynced h.is_scan }) has

  pub begins : (breaks : List Break) → ((file : List ℕ) → IsScanOfFile file scan → BeginsFile file first old new) → OfFile left (λ file. HasResyncedScan file scan breaks)
      → OfFile left (λ file. BeginsResynced file first old new)
  begins breaks begun has =
      of_file left (λ file. HasResyncedScan file scan breaks) (λ file. BeginsResynced file first old new)
      (λ file h. record { resynced = h.resynced; breaks = breaks; is = h.is; begun = begun h.resynced h.is_scan }) has

module _ (left : Option (List ℕ)) where
  -- the fault of a file that cannot be read, or has no header
  pub own_fault : (f : Fault) → IsFaultOfInput left f → IsResyncFaultOfInput left f
  own_fault fault.Read is = tt
  own_fault (fault.Refused f) is = of_file left (λ file. RefusalOf file f) (λ file. RefusesResync file f) (λ file r. inl r) is
  own_fault fault.Memory is = tt
  own_fault fault.Write is = is
  own_fault fault.NoFile is = is

-- a file that was read whole
module _ (left : Option (List ℕ)) (bytes : List ℕ) (read : OfFile left (λ file. file ≡ bytes)) where
  -- what is resynchronised of it is of the input
  pub read_scan : {T E : Type 0} (scan : T → ScanValue) (breaks : T → List Break) (r : Result T E) → IfOk r (λ x. HasResyncedScan bytes (scan x) (breaks x))
      → IfOk r (λ x. OfFile left (λ file. HasResyncedScan file (scan x) (breaks x)))
  read_scan scan breaks (Ok x) has =
      of_file left (λ file. file ≡ bytes) (λ file. HasResyncedScan file (scan x) (breaks x)) (λ file e. subst (λ (f : List ℕ). HasResyncedScan f (scan x) (breaks x)) (sym e) has) read
  read_scan scan breaks (Err e) has = tt

  -- and so is its fault
  fault_there : (f : Fault) → IsResyncFaultOf bytes f → IsResyncFaultOfInput left f
  fault_there fault.Read is = tt
  fault_there (fault.Refused f) is = of_file left (λ file. file ≡ bytes) (λ file. RefusesResync file f) (λ file e. subst (λ (v : List ℕ). RefusesResync v f) (sym e) is) read
  fault_there fault.Memory is = tt
  fault_there fault.Write is = is
  fault_there fault.NoFile is = is

  pub read_fault : {T : Type 0} (r : Result T Fault) → IfErr r (IsResyncFaultOf bytes) → IfErr r (IsResyncFaultOfInput left)
  read_fault (Ok x) is = tt
  read_fault (Err f) is = fault_there f is

-- which is not that it cannot be read
pub not_unread : {T : Type 0} (file : List ℕ) (r : Result T Fault) → IfErr r (IsResyncFaultOf file) → r ≡ Err fault.Read → ⊥
not_unread file r is e = subst (λ (q : Result _ Fault). IfErr q (IsResyncFaultOf file)) e is

-- if allocation is all that can fail
pub of_memory : {T : Type 0} (file : List ℕ) (r : Result T Fault) → IfErr r (λ f. f ≡ fault.Memory) → IfErr r (IsResyncFaultOf file)
of_memory file (Ok x) is = tt
of_memory file (Err f) is = subst (IsResyncFaultOf file) (sym is) tt

-- a result is one of the two, and has one fault
pub not_err : {T E : Type 0} (r : Result T E) (v : T) (f : E) → r ≡ Ok v → r ≡ Err f → ⊥
not_err r v f e is = let z : ◌≡◌ {A = Result _ _} (Ok v) (Err f) = sym e ∙ is in absurd cc

pub same_fault : {T E : Type 0} (r : Result T E) (f x : E) → r ≡ Err f → r ≡ Err x → f ≡ x
same_fault r f x e is = let z : ◌≡◌ {A = Result _ _} (Err f) (Err x) = sym e ∙ is in cc

-- the fault of a file that is resynchronised, and of no other kind
module _ (left : Option (List ℕ)) {T : Type 0} (r : Result T Fault) (f : Fault) (e : r ≡ Err f) (is : IsResyncFaultOfInput left f) where
  pub not_write : r ≡ Err fault.Write → ⊥
  not_write w = subst (IsResyncFaultOfInput left) (same_fault r f fault.Write e w) is

  pub not_missing : r ≡ Err fault.NoFile → ⊥
  not_missing w = subst (IsResyncFaultOfInput left) (same_fault r f fault.NoFile e w) is

  pub refuses : (x : Refusal) → r ≡ Err (fault.Refused x) → OfFile left (λ file. RefusesResync file x)
  refuses x w = subst (IsResyncFaultOfInput left) (same_fault r f (fault.Refused x) e w) is
