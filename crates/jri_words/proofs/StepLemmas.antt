-- Steps one after another, and the files after a run.
use Rattle.std.proofs.Common.{◌≡◌, ℕ, ◌+◌, length, length-append, Bool, true, false, inl, inr, List, [], ◌∷◌, ◌++◌, Option, Some, None, Result, Ok, Err, IfOk, IfErr, is_ok, append_assoc, append-nil, ap, sym, subst, refl, ◌∙◌, ◌==◌, if◌then◌else◌}
use Rattle.std.proofs.lemmas.Bool.{true≢false}
use Rattle.jr_picture.specs.declared.report.Report.{Report}
use Rattle.jr_picture.specs.declared.report.Fault.{Fault}
use Rattle.jr_picture.specs.declared.report.Fault.TheVariants as fault
use Rattle.jri_words.specs.Status.{status_of_report, status_of_fault}
use Rattle.std.specs.List.{AllByRecursion}
use Rattle.clap.specs.Words.{Text}
use Rattle.jri_machine.specs.declared.unasked.Unasked.{Unasked}
use Rattle.jri_machine.specs.declared.unasked.Unasked.TheVariants as help
use Rattle.jri_machine.specs.declared.devices.Existing.{Existing}
use Rattle.jri_machine.specs.declared.devices.Existing.TheVariants.{Kept}
use Rattle.jri_words.specs.CommandLine.{is_taken}
use Rattle.jri_machine.specs.Status.{AsksForHelp, answered_status}
use Rattle.jri_machine.specs.Steps.{Step, Created, Synced, Follow, OpensDevice, LeavesFile, Removes, placed, IsInDirectory}
use Rattle.jri_words.specs.Images.{AsksNothing, is_picture_status, DecodesEach, ImageEnd, LeavesEach, worse, worst_of}

pub follow : (a b c : Option (List Step)) (s t : List Step) → Follow a b s → Follow b c t → Follow a c (s ++ t)
follow None b c s t p q = tt
follow (Some k) None c s t p q = absurd p
follow (Some k) (Some m) None s t p q = absurd q
follow (Some k) (Some m) (Some n) s t p q = q ∙ ap (λ z. z ++ t) p ∙ append_assoc k s t

pub none_yet : (a : Option (List Step)) → Follow a a []
none_yet None = tt
none_yet (Some k) = sym (append-nil k)

module _ (are_devices : List ℕ → Type 0) (existing : Existing) (name : List ℕ) where
  -- a device is open, whether or not the image is written
  pub opened : (a b : Option (List Step)) (is_written : Bool) → OpensDevice are_devices name a b → LeavesFile are_devices existing name a b is_written
  opened a b true p = inl p
  opened a b false p = inr (inl p)

  -- nothing was done, and no image is written
  pub undone : (a b : Option (List Step)) (r : Result Report Fault) → Follow a b [] → is_ok r ≡ false → LeavesFile are_devices existing name a b (is_ok r)
  undone a b (Ok report) p q = absurd (true≢false q)
  undone a b (Err f) p q = inl p

  -- a part was made, and then placed or removed
  pub ended : (part : List ℕ) (a b c : Option (List Step)) (r : Result Report Fault) → Follow a b (Created part ∷ [])
      → IfOk r (λ _. Follow b c (Synced part ∷ placed existing part name ∷ [])) → IfErr r (λ _. Removes part b c) → LeavesFile are_devices existing name a c (is_ok r)
  ended part a b c (Ok report) made p q = inr (part, follow a b c (Created part ∷ []) (Synced part ∷ placed existing part name ∷ []) made p)
  ended part a b c (Err f) made p q = inr (inr (part, b, made, q))

damage_reports : (b : Bool) → is_picture_status (if b then 0 else 3) ≡ true
damage_reports true = refl
damage_reports false = refl

-- the exit status says whether an image was written
pub status_reports : (r : Result Report Fault) (n : ℕ) → IfOk r (λ report. n ≡ status_of_report report false) → IfErr r (λ f. n ≡ status_of_fault f) → is_picture_status n ≡ is_ok r
status_reports (Ok report) n p q = rw p (damage_reports (report.damaged == 0))
status_reports (Err fault.Read) n p q = rw q refl
status_reports (Err (fault.Refused f)) n p q = rw q refl
status_reports (Err fault.Memory) n p q = rw q refl
status_reports (Err fault.Write) n p q = rw q refl
status_reports (Err fault.NoFile) n p q = rw q refl

-- the files after a run that opens no device
pub without_devices : (are_devices : List ℕ → Type 0) (existing : Existing) (name : List ℕ) (a b : Option (List Step)) (is_written : Bool)
    → LeavesFile (λ _. ⊥) existing name a b is_written → LeavesFile are_devices existing name a b is_written
without_devices are_devices existing name a b true (inl p) = absurd p.is
without_devices are_devices existing name a b true (inr p) = inr p
without_devices are_devices existing name a b false (inl p) = inl p
without_devices are_devices existing name a b false (inr (inl p)) = absurd p.is
without_devices are_devices existing name a b false (inr (inr p)) = inr (inr p)

-- arguments that ask for no image: nothing is done, and with a status of an image they are not taken
pub answered : (words : List Text) (a : Option (List Step)) (unasked : Unasked) (has_failed : Bool) (n : ℕ)
    → (AsksForHelp unasked → is_taken words ≡ false) → n ≡ answered_status 1 unasked has_failed → AsksNothing words a a n
answered words a (help.Help text) has_failed n help is = record { unmoved = none_yet a; unwritten = λ taken. absurd (true≢false (sym taken ∙ help tt)) }
answered words a (help.Wrong text) has_failed n help is = record { unmoved = none_yet a; unwritten = λ _. rw is refl }
answered words a help.Memory has_failed n help is = record { unmoved = none_yet a; unwritten = λ _. rw is refl }

-- arguments that are not text have no status of an image
pub unread : (unasked : Unasked) (has_failed : Bool) (n : ℕ) → (AsksForHelp unasked → ⊥) → n ≡ answered_status 1 unasked has_failed → is_picture_status n ≡ false
unread (help.Help text) has_failed n none is = absurd (none tt)
unread (help.Wrong text) has_failed n none is = rw is refl
unread help.Memory has_failed n none is = rw is refl

-- one more image is made
leaves_one_more : (es : List ImageEnd) (e : ImageEnd) (old mid new : Option (List Step)) → LeavesEach es old mid → LeavesFile (λ _. ⊥) Kept e.name mid new (is_picture_status e.status) → LeavesEach (es ++ e ∷ []) old new
leaves_one_more [] e old mid new p q = (new, subst (λ (o : Option (List Step)). LeavesFile (λ _. ⊥) Kept e.name o new (is_picture_status e.status)) (sym p) q, refl)
leaves_one_more (d ∷ ds) e old mid new p q = (p.0, p.1, leaves_one_more ds e p.0 mid new p.2 q)

worst_one_more : (before : ℕ) (es : List ImageEnd) (e : ImageEnd) → worst_of before (es ++ e ∷ []) ≡ worse (worst_of before es) e.status
worst_one_more before [] e = refl
worst_one_more before (d ∷ ds) e = worst_one_more (worse before d.status) ds e

within_one_more : (P : ImageEnd → Type 0) (es : List ImageEnd) (e : ImageEnd) → AllByRecursion P es → P e → AllByRecursion P (es ++ e ∷ [])
within_one_more P [] e p q = (q, tt)
within_one_more P (d ∷ ds) e p q = (p.0, within_one_more P ds e p.1 q)

pub decodes_one_more : (directory : List ℕ) (n : ℕ) (old mid new : Option (List Step)) (before status : ℕ) (name : List ℕ) → DecodesEach directory n old mid before → IsInDirectory directory name
    → LeavesFile (λ _. ⊥) Kept name mid new (is_picture_status status) → DecodesEach directory (n + 1) old new (worse before status)
decodes_one_more directory n old mid new before status name d is_in left =
    let e : ImageEnd = record { name = name; status = status } in
    record {
      ends = d.ends ++ e ∷ [];
      count = length-append d.ends (e ∷ []) ∙ ap (λ k. k + 1) d.count;
      within = within_one_more (λ i. IsInDirectory directory i.name) d.ends e d.within is_in;
      left = leaves_one_more d.ends e old mid new d.left left;
      worst = ap (λ b. worse b status) d.worst ∙ sym (worst_one_more 0 d.ends e);
    }

pub decodes_none : (directory : List ℕ) (a : Option (List Step)) → DecodesEach directory 0 a a 0
decodes_none directory a = record { ends = []; count = refl; within = tt; left = refl; worst = refl }
