-- What is read of an input is its file.
use Rattle.std.proofs.Common.{◌≡◌, ◌≢◌, ◌⊎◌, refl, inl, inr, ℕ, ◌+◌, ◌-◌, ◌<◌, ◌≤◌, List, [], ◌++◌, length, take, Option, Some, None, sym, ap, Result, Ok, Err, IfOk, IfErr, subst, ◌∙◌, append_assoc, append-nil, arith}
use Rattle.std.specs.Io.KnownBytes.{Consumes, IsAtEnd, prepend_known}
use Rattle.std.proofs.lemmas.Bool.{cases_lt}
use Rattle.std.proofs.lemmas.List.{take-append-le, take_all}
use Rattle.jr_base.specs.declared.limits.TheConstants.{MAX_FILE_BYTES}
use Rattle.std.proofs.Math.Seq.{take-append-add}
use Rattle.jr_head.specs.HeadValue.{HeadValue}
use Rattle.jr_head.specs.Heads.{HeadOf, RefusalOf}
use Rattle.jr_picture.specs.declared.report.Fault.{Fault}
use Rattle.jr_picture.specs.declared.report.Fault.TheVariants as fault
use Rattle.jr_segments.specs.declared.refusal.Refusal.{Refusal}
use Rattle.jr_segments.specs.declared.refusal.Refusal.TheVariants as refusal
use Rattle.jri_file.specs.Files.{BeginsWithFault, BeginsWithHead, IsFaultOf, IsFaultOfInput, IsHeaderFaultOfInput, OfFile, fault_by}

-- what was read, and then more
pub read_on : (left then after : Option (List ℕ)) (first file : List ℕ) → Consumes left then first → Consumes (prepend_known first then) after file → Consumes left after file
read_on None then after first file p q = tt
read_on (Some xs) None after first file p q = absurd p
read_on (Some xs) (Some ys) None first file p q = absurd q
read_on (Some xs) (Some ys) (Some zs) first file p q = p ∙ q

-- nothing was read before
pub read_first : (left after : Option (List ℕ)) (first : List ℕ) → Consumes (prepend_known [] left) after first → Consumes left after first
read_first None after first p = tt
read_first (Some xs) None first p = absurd p
read_first (Some xs) (Some ys) first p = p

-- the first n elements of a list, if it is not shorter, or all of it
front_of : (n : ℕ) (file rest : List ℕ) → length file ≤ n → (length file < n → rest ≡ []) → take n (file ++ rest) ≡ file
front_of n file rest few end = elim (cases_lt (length file) n) [
  | inl less ↦ ap (λ (r : List ℕ). take n (file ++ r)) (end less) ∙ ap (take n) (append-nil file) ∙ take_all n file few
  | inr more ↦ take-append-le n file rest more ∙ take_all n file few
]

-- the input's file
pub of_file : (P : List ℕ → Type 0) (left after : Option (List ℕ)) (file : List ℕ) → Consumes left after file → length file ≤ MAX_FILE_BYTES + 1 → (length file < MAX_FILE_BYTES + 1 → IsAtEnd after) → P file → OfFile left P
of_file P None after file p few end holds = tt
of_file P (Some xs) None file p few end holds = absurd p
of_file P (Some xs) (Some ys) file p few end holds =
    subst P (sym (ap (take (MAX_FILE_BYTES + 1)) p ∙ front_of (MAX_FILE_BYTES + 1) file ys few end)) holds

-- what holds for the input's file as its first bytes are read
pub of_input : (P : List ℕ → Type 0) (left then : Option (List ℕ)) (first : List ℕ) → Consumes left then first → OfFile (prepend_known first then) P → OfFile left P
of_input P None then first p holds = tt
of_input P (Some xs) None first p holds = absurd p
of_input P (Some xs) (Some ys) first p holds = subst (λ (l : List ℕ). P (take (MAX_FILE_BYTES + 1) l)) (sym p) holds

pub fault_of_input : (left then : Option (List ℕ)) (first : List ℕ) (f : Fault) → Consumes left then first → IsFaultOfInput (prepend_known first then) f → IsFaultOfInput left f
fault_of_input left then first fault.Read p is = tt
fault_of_input left then first (fault.Refused r) p is = of_input (λ f. RefusalOf f r) left then first p is
fault_of_input left then first fault.Memory p is = tt
fault_of_input left then first fault.Write p is = absurd is
fault_of_input left then first fault.NoFile p is = absurd is

pub fault_of_file : (left after : Option (List ℕ)) (file : List ℕ) (f : Fault) → Consumes left after file → length file ≤ MAX_FILE_BYTES + 1 → (length file < MAX_FILE_BYTES + 1 → IsAtEnd after) → IsFaultOf file f → IsFaultOfInput left f
fault_of_file left after file fault.Read p few end is = tt
fault_of_file left after file (fault.Refused r) p few end is = of_file (λ f. RefusalOf f r) left after file p few end is
fault_of_file left after file fault.Memory p few end is = tt
fault_of_file left after file fault.Write p few end is = absurd is
fault_of_file left after file fault.NoFile p few end is = absurd is

-- the input's file begins with bytes that have a header
pub begins_with : (left then : Option (List ℕ)) (front : List ℕ) (h : HeadValue) → Consumes left then front → HeadOf front h → OfFile left (λ file. BeginsWithHead file h)
begins_with None then front h p is = tt
begins_with (Some xs) None front h p is = absurd p
begins_with (Some xs) (Some ys) front h p is =
    let over = MAX_FILE_BYTES + 1 - length front in
    let count : MAX_FILE_BYTES + 1 ≡ length front + over = omega (arith, is.small) in
    record { front = front; rest = take over ys; begins = ap (λ (l : List ℕ). take (MAX_FILE_BYTES + 1) l) p ∙ ap (λ n. take n (front ++ ys)) count ∙ take-append-add front ys over; is = is }

-- nothing is read yet
pub unread : (left : Option (List ℕ)) → Consumes left left []
unread None = tt
unread (Some xs) = refl

-- the fault of a prefix of the input's file, which more bytes do not change
pub fault_of_front : (left then : Option (List ℕ)) (front : List ℕ) (f : Refusal) → Consumes left then front → length front ≤ MAX_FILE_BYTES + 1 → 2 ≤ length front → f ≢ refusal.EndsEarly → RefusalOf front f
    → OfFile left (λ file. RefusalOf file f ⊎ BeginsWithFault file f)
fault_of_front None then front f p few some later is = tt
fault_of_front (Some xs) None front f p few some later is = absurd p
fault_of_front (Some xs) (Some ys) front f p few some later is =
    let over = MAX_FILE_BYTES + 1 - length front in
    let count : MAX_FILE_BYTES + 1 ≡ length front + over = omega (arith, few) in
    inr (record { front = front; rest = take over ys; begins = ap (λ (l : List ℕ). take (MAX_FILE_BYTES + 1) l) p ∙ ap (λ n. take n (front ++ ys)) count ∙ take-append-add front ys over; is = is; later = later; start = some })

-- the same of all that is read
pub fault_of_all : (left : Option (List ℕ)) (f : Fault) → IsFaultOfInput left f → IsHeaderFaultOfInput left f
fault_of_all left fault.Read is = tt
fault_of_all None (fault.Refused r) is = tt
fault_of_all (Some xs) (fault.Refused r) is = inl is
fault_of_all left fault.Memory is = tt
fault_of_all left fault.Write is = absurd is
fault_of_all left fault.NoFile is = absurd is

-- the fault by the refusal of a prefix
module _ (left then : Option (List ℕ)) (front : List ℕ) (p : Consumes left then front) (few : length front ≤ MAX_FILE_BYTES + 1) (some : 2 ≤ length front) where
  pub fault_by_front : (r : Refusal) → r ≢ refusal.EndsEarly → (r ≢ refusal.Memory → RefusalOf front r) → IsHeaderFaultOfInput left (fault_by r)
  fault_by_front refusal.NotJpeg later of = fault_of_front left then front refusal.NotJpeg p few some later (of (λ e. cc))
  fault_by_front refusal.EndsEarly later of = fault_of_front left then front refusal.EndsEarly p few some later (of (λ e. cc))
  fault_by_front (refusal.ExpectedMarker at) later of = fault_of_front left then front (refusal.ExpectedMarker at) p few some later (of (λ e. cc))
  fault_by_front (refusal.UnexpectedMarker code) later of = fault_of_front left then front (refusal.UnexpectedMarker code) p few some later (of (λ e. cc))
  fault_by_front (refusal.NotBaseline code) later of = fault_of_front left then front (refusal.NotBaseline code) p few some later (of (λ e. cc))
  fault_by_front (refusal.BadLength code) later of = fault_of_front left then front (refusal.BadLength code) p few some later (of (λ e. cc))
  fault_by_front refusal.BadQuantTable later of = fault_of_front left then front refusal.BadQuantTable p few some later (of (λ e. cc))
  fault_by_front refusal.BadCodeTable later of = fault_of_front left then front refusal.BadCodeTable p few some later (of (λ e. cc))
  fault_by_front refusal.SecondFrame later of = fault_of_front left then front refusal.SecondFrame p few some later (of (λ e. cc))
  fault_by_front refusal.BadPrecision later of = fault_of_front left then front refusal.BadPrecision p few some later (of (λ e. cc))
  fault_by_front refusal.BadSize later of = fault_of_front left then front refusal.BadSize p few some later (of (λ e. cc))
  fault_by_front refusal.TooManyPixels later of = fault_of_front left then front refusal.TooManyPixels p few some later (of (λ e. cc))
  fault_by_front refusal.BadComponents later of = fault_of_front left then front refusal.BadComponents p few some later (of (λ e. cc))
  fault_by_front refusal.BadSampling later of = fault_of_front left then front refusal.BadSampling p few some later (of (λ e. cc))
  fault_by_front refusal.BadScanHeader later of = fault_of_front left then front refusal.BadScanHeader p few some later (of (λ e. cc))
  fault_by_front refusal.NoFrame later of = fault_of_front left then front refusal.NoFrame p few some later (of (λ e. cc))
  fault_by_front refusal.MissingTable later of = fault_of_front left then front refusal.MissingTable p few some later (of (λ e. cc))
  fault_by_front refusal.TooLong later of = fault_of_front left then front refusal.TooLong p few some later (of (λ e. cc))
  fault_by_front refusal.Memory later of = tt

-- the first bytes, and those that a reader returned
pub first_and : (then after : Option (List ℕ)) (first given : List ℕ) → Consumes then after given → Consumes (prepend_known first then) after (first ++ given)
first_and None after first given p = tt
first_and (Some ys) None first given p = absurd p
first_and (Some ys) (Some zs) first given p = ap (λ (l : List ℕ). first ++ l) p ∙ sym (append_assoc first given zs)

-- what holds for an error
pub if_err : {T E : Type 0} {P Q : E → Type 0} → (r : Result T E) → ((e : E) → P e → Q e) → IfErr r P → IfErr r Q
if_err (Ok x) f p = tt
if_err (Err e) f p = f e p

-- what holds for a result that is not an error
pub if_ok : {T E : Type 0} {P Q : T → Type 0} → (r : Result T E) → ((x : T) → P x → Q x) → IfOk r P → IfOk r Q
if_ok (Ok x) f p = f x p
if_ok (Err e) f p = tt
