-- What the flush after a decoding leaves, and the ends of runs that ask for nothing.
use Rattle.std.proofs.Common.{◌≡◌, ℕ, Bool, true, false, inl, subst, ◌∙◌, List, [], Option, Some, None, Result, Ok, Err, IfErr, IfOk}
use Rattle.std.specs.Io.KnownBytes.{Appends, Keeps}
use Rattle.jr_picture.specs.declared.report.Report.{Report}
use Rattle.jr_picture.specs.declared.report.Fault.{Fault}
use Rattle.jri_machine.specs.declared.unasked.Unasked.{Unasked}
use Rattle.jri_words.specs.CommandLine.{is_taken}
use Rattle.jri_machine.specs.Status.{AsksForHelp, answered_status}
use Rattle.jri_machine.specs.Steps.{Step, Follow}
use Rattle.jri_words.specs.Images.{LeavesNamed, is_picture_status}
use Rattle.jri_words.proofs.StepLemmas.{answered, none_yet, unread}
use Rattle.jri_engine.specs.declared.resync.ResyncedReport.{ResyncedReport}
use Rattle.jri_engine.specs.Decoding.{PaintsBy}
use Rattle.jri_engine.specs.Files.{PaintsFile}
use Rattle.jri_engine.specs.Resync.{PaintsResynced}
use Rattle.jri_engine.proofs.PaintsLemmas.{of_file}

appends_kept : (old mid new : Option (List ℕ)) (bs : List ℕ) → Appends old mid bs → Keeps mid new → Appends old new bs
appends_kept None mid new bs p q = tt
appends_kept (Some xs) None new bs p q = absurd p
appends_kept (Some xs) (Some ys) None bs p q = absurd q
appends_kept (Some xs) (Some ys) (Some zs) bs p q = q ∙ p

paints_kept : (file : List ℕ) (first : Option ℕ) (r : Report) (old mid new : Option (List ℕ)) → PaintsFile file first r old mid → Keeps mid new → PaintsFile file first r old new
paints_kept file first r old mid new p q = record {
  scan = p.scan;
  marks = p.marks;
  f = p.f;
  is = p.is;
  appended = appends_kept old mid new _ p.appended q;
  reported = p.reported;
}

pub painted_kept : (is_resync : Bool) (left : Option (List ℕ)) (first : Option ℕ) (r : ResyncedReport) (old mid new : Option (List ℕ)) → Keeps mid new → PaintsBy is_resync left first r old mid → PaintsBy is_resync left first r old new
painted_kept false left first r old mid new q p = of_file left (λ file. PaintsFile file first r.report old mid) (λ file. PaintsFile file first r.report old new) (λ file is. paints_kept file first r.report old mid new is q) p
painted_kept true left first r old mid new q p =
    of_file left (λ file. PaintsResynced file first r old mid) (λ file. PaintsResynced file first r old new)
    (λ file is. record { resynced = is.resynced; is = is.is; painted = paints_kept is.resynced first r.report old mid new is.painted q }) p

-- what holds for an outcome holds for it after a flush
pub after_flush : (P Q : Report → Type 0) (before after : Result Report Fault) → IfOk after (λ report. before ≡ Ok report) → ((r : Report) → P r → Q r) → IfOk before P → IfOk after Q
after_flush P Q (Ok b) (Ok r) same f p = let e : b ≡ r = cc in f r (subst P e p)
after_flush P Q (Err e) (Ok r) same f p = let z : ⊥ = cc in absurd z
after_flush P Q before (Err e) same f p = tt

-- arguments that ask for nothing
pub asked_nothing : {T E : Type 0} (words : Result T E) (texts : T → List (List ℕ)) (are_devices : List ℕ → Type 0) (a : Option (List Step)) (unasked : Unasked) (has_failed : Bool) (n : ℕ) → n ≡ answered_status 1 unasked has_failed
    → (AsksForHelp unasked → IfOk words (λ given. is_taken (texts given) ≡ false)) → IfOk words (λ given. LeavesNamed are_devices (texts given) a a n)
asked_nothing (Ok given) texts are_devices a unasked has_failed n is help = inl (answered (texts given) a unasked has_failed n help is)
asked_nothing (Err e) texts are_devices a unasked has_failed n is help = tt

-- arguments that are not text
pub unread_status : {T E : Type 0} (words : Result T E) (unasked : Unasked) (has_failed : Bool) (n : ℕ) → n ≡ answered_status 1 unasked has_failed → IfErr words (λ _. AsksForHelp unasked → ⊥) → IfErr words (λ _. is_picture_status n ≡ false)
unread_status (Ok given) unasked has_failed n is none = tt
unread_status (Err e) unasked has_failed n is none = unread unasked has_failed n none is

pub unread_steps : {T E : Type 0} (words : Result T E) (a : Option (List Step)) → IfErr words (λ _. Follow a a [])
unread_steps (Ok given) a = tt
unread_steps (Err e) a = none_yet a

-- what never happens
pub never : {T E : Type 0} (words : Result T E) (Q : E → Type 0) → IfErr words (λ _. false ≡ true) → IfErr words Q
never (Ok given) Q p = tt
never (Err e) Q p = let z : ⊥ = cc in absurd z
