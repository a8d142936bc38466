-- Which bytes of a file are checked.
use Rattle.std.specs.Prelude.{◌≡◌, ◌⊎◌, ℕ, Bool, true, false, List, []}
use Rattle.jr_segments.specs.declared.refusal.Refusal.{Refusal}
use Rattle.jr_cut.specs.declared.scan_end.ScanEnd.{ScanEnd}
use Rattle.jr_head.specs.HeadValue.{HeadValue}
use Rattle.jr_head.specs.Heads.{HeadOf, RefusalOf}
use Rattle.jr_cut.specs.declared.breaks.Break.{Break}
use Rattle.jr_mend.specs.Reading.{Becomes, IsFileInStep, IsTooLong}
use Rattle.jri_machine.specs.declared.entries.ReadError.{ReadError}
use Rattle.jri_machine.specs.declared.entries.ReadError.TheVariants.{Memory, TooLong}

-- the file with its restart markers in step, and the markers that are not
pub record IsStoredInStep (file bytes : List ℕ) (breaks : List Break) : Type 0 where
  pub head : HeadValue
  pub ended : ScanEnd
  pub is_head : HeadOf file head
  pub is : Becomes file head bytes breaks ended

-- a file whose restart markers are in step is checked as it is
pub record IsKept (file bytes : List ℕ) (breaks : List Break) : Type 0 where
  pub head : HeadValue
  pub is_head : HeadOf file head
  pub in_step : IsFileInStep file head
  pub same : bytes ≡ file
  pub none : breaks ≡ []

-- a refused file is checked as it is
pub record IsLeft (file bytes : List ℕ) : Type 0 where
  pub refusal : Refusal
  pub is_refused : RefusalOf file refusal
  pub same : bytes ≡ file

-- the bytes of a file that are checked with `--resync`
abbrev pub IsInStepOf : (file bytes : List ℕ) → List Break → Type 0
IsInStepOf file bytes breaks = IsStoredInStep file bytes breaks ⊎ (IsKept file bytes breaks ⊎ IsLeft file bytes)

-- the file that it would become is too long
pub record IsTooLongInStep (file : List ℕ) : Type 0 where
  pub head : HeadValue
  pub is_head : HeadOf file head
  pub long : IsTooLong file head

abbrev pub IsInStepError : List ℕ → ReadError → Type 0
IsInStepError file e = (e ≡ Memory) ⊎ ((e ≡ TooLong) × IsTooLongInStep file)

-- the bytes that are checked of the file of that name, if it may hold such bytes
abbrev pub HoldsInStep : (holds : List ℕ → List ℕ → Type 0) → Bool → List ℕ → List ℕ → Type 0
HoldsInStep holds true name bytes = (file : List ℕ) × holds name file × ((breaks : List Break) × IsInStepOf file bytes breaks)
HoldsInStep holds false name bytes = holds name bytes

-- why they are not there
abbrev pub FailsInStep : (holds : List ℕ → List ℕ → Type 0) (fails : List ℕ → ReadError → Type 0) → Bool → List ℕ → ReadError → Type 0
FailsInStep holds fails true name e = fails name e ⊎ ((file : List ℕ) × holds name file × IsInStepError file e)
FailsInStep holds fails false name e = fails name e
