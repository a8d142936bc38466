-- Names that are claimed one after the other, and checks of their files.
use Rattle.std.proofs.Common.{arith, subst, sym, ap, refl, unwrap_or, ◌∙◌, ◌≡◌, ℕ, suc, Bool, true, false, List, [], Option, Some, None, Result, Ok, Err, length, drop, get_or, ◌+◌, ◌^◌, ◌<◌, ◌≤◌, ◌⊎◌, inl, inr}
use Rattle.std.specs.Global.{Vec}
use Rattle.std.specs.Prelude.{IfOk, IfErr, IfSome, if◌then◌else◌, nat_lt}
use Rattle.sha2.specs.Sha256.{sha256}
use Rattle.std.proofs.Math.ListN.{drop_of_length-le}
use Rattle.std.proofs.Math.Seq.{drop-cons}
use Rattle.std.proofs.lemmas.Bool.{cases_lt, ltb-true}
use Rattle.std.proofs.lemmas.Option.{none-some, slice_get-get_or}
use Rattle.jri_machine.specs.declared.walking.NamedFile.{NamedFile}
use Rattle.jri_machine.specs.declared.entries.ReadError.{ReadError}
use Rattle.jri_archive.specs.Names.{IsNamed, IsNextFile, IsNoText, names_left}
use Rattle.jri_archive.specs.declared.outcome.Outcome.{Outcome}
use Rattle.jri_archive.specs.declared.outcome.Outcome.TheVariants as outcome
use Rattle.jri_archive.specs.Outcomes.{IsOutcomeOf, plain_outcome, state_of}
use Rattle.jri_archive.specs.Records.{file_state}
use Rattle.jri_archive.specs.declared.source.Seal.{Seal}
use Rattle.jri_archive.specs.declared.state_record.FileRecord.{FileRecord}
use Rattle.jri_archive.specs.declared.state_record.Stamp.{Stamp}
use Rattle.jri_archive.specs.Reporting.{IsCheckOf, IsClaimOf, IsOther, IsOtherSeal, IsRecordOf, IsSealed, IsStamped, AllowsEntries, AreChecksOf, IsCheckBy, given_names, numbered}

-- the next of all names is claimed, and those after it are left
pub record IsNext (all : List (List ℕ)) (claimed : ℕ) (file : NamedFile) (others : Option (List (List ℕ))) : Type 0 where
  pub within : claimed < length all
  pub named : IsNamed file (get_or all claimed [])
  pub left : others ≡ Some (drop (claimed + 1) all)

pub next_claimed : (all : List (List ℕ)) (claimed : ℕ) (file : NamedFile) (others : Option (List (List ℕ)))
    → IsNextFile (drop claimed all) (Some file) others → IsNext all claimed file others
next_claimed all claimed file others next = elim (cases_lt claimed (length all)) [
  | inl lt ↦ (
      let e : suc claimed ≡ claimed + 1 = omega arith in
      let n = subst (λ (ns : List (List ℕ)). IsNextFile ns (Some file) others) (drop-cons all claimed [] lt) next in
      record {
        within = lt;
        named = subst (λ (f : NamedFile). IsNamed f (get_or all claimed [])) (sym (ap (λ (o : Option NamedFile). unwrap_or o file) n.1.1)) n.1.2;
        left = n.0 ∙ ap (λ (k : ℕ). Some (drop k all)) e;
      })
  | inr past ↦ absurd (none-some file (sym (subst (λ (ns : List (List ℕ)). IsNextFile ns (Some file) others) (drop_of_length-le all past) next).0))
]

-- if no file is next, all are claimed
pub all_claimed : (all : List (List ℕ)) (claimed : ℕ) (others : Option (List (List ℕ))) → claimed ≤ length all → IsNextFile (drop claimed all) None others → claimed ≡ length all
all_claimed all claimed others within next = elim (cases_lt claimed (length all)) [
  | inl lt ↦ (let n = subst (λ (ns : List (List ℕ)). IsNextFile ns None others) (drop-cons all claimed [] lt) next in absurd (none-some n.1.0 n.1.1))
  | inr past ↦ omega (arith, past, within)
]

by_number : (names all : List (List ℕ)) (t : Bool) → nat_lt (length names) (2 ^ 64) ≡ t → (if t then Some names else None) ≡ Some all → (Some names ≡ Some all) × (length all < 2 ^ 64)
by_number names all true t e =
    (e, subst (λ (ns : List (List ℕ)). length ns < 2 ^ 64) (ap (λ (o : Option (List (List ℕ))). unwrap_or o names) e) (ltb-true (length names) (2 ^ 64) t))
by_number names all false t e = absurd (none-some all e)

numbered_is : (given : Option (List (List ℕ))) (all : List (List ℕ)) → numbered given ≡ Some all → (given ≡ Some all) × (length all < 2 ^ 64)
numbered_is None all e = absurd (none-some all e)
numbered_is (Some names) all e = by_number names all (nat_lt (length names) (2 ^ 64)) refl e

-- a check of a file of known names, or of others, is one by whether they are known
pub check_by : (names : Option (List (List ℕ))) (holds : List ℕ → List ℕ → Type 0) (fails : List ℕ → ReadError → Type 0) (stamps : List ℕ → Stamp → Type 0) (knows : List ℕ → FileRecord → Type 0)
    → AreChecksOf holds fails stamps knows (IsCheckBy names holds fails stamps knows)
check_by (Some names) holds fails stamps knows name o is = is
check_by None holds fails stamps knows name (outcome.Checked c) is = is
check_by None holds fails stamps knows name (outcome.Refused f) is = is
check_by None holds fails stamps knows name (outcome.Unread e) is = tt
check_by None holds fails stamps knows name outcome.Skipped is = tt
check_by None holds fails stamps knows name (outcome.Unchanged was) is = is
check_by None holds fails stamps knows name (outcome.Changed c) is = is
check_by None holds fails stamps knows name (outcome.ChangedRefused f) is = is

pub entries_by : (names : Option (List (List ℕ))) (holds : List ℕ → List ℕ → Type 0) (fails : List ℕ → ReadError → Type 0) (stamps : List ℕ → Stamp → Type 0) (knows : List ℕ → FileRecord → Type 0)
    → names ≡ None → AllowsEntries (IsCheckBy names holds fails stamps knows)
entries_by (Some all) holds fails stamps knows none name = absurd (none-some all (sym none))
entries_by None holds fails stamps knows none name = (tt, λ e. tt)

-- names that are known are those of arguments and of a list, and no directory is searched
pub known_given : {L : Type 0} (remaining : L → Option (List ℕ)) (list : Option L) (is_recursive : Bool) (words : List (Vec ℕ)) (all : List (List ℕ))
    → given_names remaining list is_recursive words ≡ Some all → (is_recursive ≡ false) × (names_left remaining words 0 list ≡ Some all) × (length all < 2 ^ 64)
known_given remaining list true words all e = absurd (none-some all e)
known_given remaining list false words all e = let n = numbered_is (names_left remaining words 0 list) all e in (refl, n.0, n.1)

pub claim_of : (names : Option (List (List ℕ))) (number : ℕ) (file : NamedFile) → ((all : List (List ℕ)) → names ≡ Some all → (others : Option (List (List ℕ))) × IsNext all number file others)
    → IsClaimOf names number file
claim_of None number file next = tt
claim_of (Some all) number file next =
    let n = next all refl in (get_or all number [], slice_get-get_or all number [] n.1.within, n.1.named)

-- the predicates of the files of a run
module _ (holds : List ℕ → List ℕ → Type 0) (fails : List ℕ → ReadError → Type 0) (stamps : List ℕ → Stamp → Type 0) (knows : List ℕ → FileRecord → Type 0) (name : List ℕ) where
  plain_check : (bytes : List ℕ) (o : Outcome) → holds name bytes → IsOutcomeOf bytes o → IsCheckOf holds fails stamps knows name o
  plain_check bytes (outcome.Checked c) held is = (bytes, held, is)
  plain_check bytes (outcome.Refused f) held is = (bytes, held, is)
  plain_check bytes (outcome.Unread e) held is = absurd is
  plain_check bytes outcome.Skipped held is = absurd is
  plain_check bytes (outcome.Unchanged was) held is = absurd is
  plain_check bytes (outcome.Changed c) held is = absurd is
  plain_check bytes (outcome.ChangedRefused f) held is = absurd is

  other_check : (bytes : List ℕ) (o : Outcome) → holds name bytes → IsOutcomeOf bytes (plain_outcome o) → IsOther stamps knows name bytes → IsCheckOf holds fails stamps knows name o
  other_check bytes (outcome.Checked c) held is other = (bytes, held, is)
  other_check bytes (outcome.Refused f) held is other = (bytes, held, is)
  other_check bytes (outcome.Unread e) held is other = absurd is
  other_check bytes outcome.Skipped held is other = absurd is
  other_check bytes (outcome.Unchanged was) held is other = absurd is
  other_check bytes (outcome.Changed c) held is other = (bytes, held, is, other)
  other_check bytes (outcome.ChangedRefused f) held is other = (bytes, held, is, other)

  other_of : (bytes : List ℕ) (seal : Option Seal) (known : Option FileRecord) → IfSome seal (λ s. s.hash ≡ sha256 bytes) → IfSome known (IsStamped stamps knows name) → IsOtherSeal seal known → IsOther stamps knows name bytes
  other_of bytes None known hash stamped other = absurd other
  other_of bytes (Some s) None hash stamped other = absurd other
  other_of bytes (Some s) (Some r) hash stamped other = (r, stamped, λ e. other (e ∙ sym hash))

  no_other : (seal : Option Seal) (known : Option FileRecord) → seal ≡ None → IsOtherSeal seal known → ⊥
  no_other None known e other = other
  no_other (Some s) known e other = absurd (none-some s (sym e))

  -- what is reported about a file that was read is a check of it
  pub check_of : (opened : Type 0) (r : Result (Vec ℕ) ReadError) (o p : Outcome) (seal : Option Seal) (known : Option FileRecord)
      → IfOk r (λ b. holds name b.items) → IfErr r (λ e. opened → fails name e ⊎ IsNoText name e) → opened → IfOk r (λ b. IsOutcomeOf b.items o) → IfErr r (λ e. o ≡ outcome.Unread e)
      → IfErr r (λ _. seal ≡ None) → IfSome seal (λ s. IfOk r (λ b. s.hash ≡ sha256 b.items)) → IfSome known (IsStamped stamps knows name)
      → ((file : List ℕ) → IsOutcomeOf file o → IsOutcomeOf file (plain_outcome p)) → (p ≡ o) ⊎ IsOtherSeal seal known → IsCheckOf holds fails stamps knows name p
  check_of opened (Ok b) o p seal known held failed so is unread none hash stamped same other = elim other [
    | inl e ↦ subst (IsCheckOf holds fails stamps knows name) (sym e) (plain_check b.items o held is)
    | inr differs ↦ other_check b.items p held (same b.items is) (other_of b.items seal known hash stamped differs)
  ]
  check_of opened (Err e) o p seal known held failed so is unread none hash stamped same other = elim other [
    | inl e ↦ subst (IsCheckOf holds fails stamps knows name) (sym (e ∙ unread)) (failed so)
    | inr differs ↦ absurd (no_other seal known none differs)
  ]

  -- the same if the file may be one whose entry cannot be read
  pub found_of : (may_be : List ℕ → Outcome → Type 0) → ((o : Outcome) → IsCheckOf holds fails stamps knows name o → may_be name o) → ((e : ReadError) → may_be name (outcome.Unread e))
      → (r : Result (Vec ℕ) ReadError) (o p : Outcome) (seal : Option Seal) (known : Option FileRecord)
      → IfOk r (λ b. holds name b.items) → IfOk r (λ b. IsOutcomeOf b.items o) → IfErr r (λ e. o ≡ outcome.Unread e)
      → IfErr r (λ _. seal ≡ None) → IfSome seal (λ s. IfOk r (λ b. s.hash ≡ sha256 b.items)) → IfSome known (IsStamped stamps knows name)
      → ((file : List ℕ) → IsOutcomeOf file o → IsOutcomeOf file (plain_outcome p)) → (p ≡ o) ⊎ IsOtherSeal seal known → may_be name p
  found_of may_be checks entries (Ok b) o p seal known held is unread none hash stamped same other =
      checks p (check_of (Unit {0}) (Ok b) o p seal known held tt tt is tt tt hash stamped same other)
  found_of may_be checks entries (Err e) o p seal known held is unread none hash stamped same other = elim other [
    | inl e' ↦ subst (may_be name) (sym (e' ∙ unread)) (entries e)
    | inr differs ↦ absurd (no_other seal known none differs)
  ]

  sealed_record : (b : Vec ℕ) (o p : Outcome) (seal : Option Seal) (r : FileRecord) → holds name b.items → IsOutcomeOf b.items o → IfSome seal (λ s. stamps name s.stamp) → IfSome seal (λ s. s.hash ≡ sha256 b.items)
      → IsSealed seal r → file_state r.state ≡ state_of p → p ≡ o → IsRecordOf holds stamps name r p
  sealed_record b o p None r held is stamped hash sealed state same = absurd sealed
  sealed_record b o p (Some s) r held is stamped hash sealed state same = record {
    bytes = b.items;
    held = held;
    hash = sealed.0 ∙ hash;
    checked = subst (IsOutcomeOf b.items) (sym same) is;
    state = state;
    stamp = subst (stamps name) (sym sealed.1) stamped;
  }

  no_seal : (seal : Option Seal) (r : FileRecord) → seal ≡ None → IsSealed seal r → ⊥
  no_seal None r e sealed = sealed
  no_seal (Some s) r e sealed = absurd (none-some s (sym e))

  -- what is recorded about a file that was read is a record of it
  pub recorded_of : (r : Result (Vec ℕ) ReadError) (o p : Outcome) (seal : Option Seal) (x : Option FileRecord)
      → IfOk r (λ b. holds name b.items) → IfOk r (λ b. IsOutcomeOf b.items o) → IfErr r (λ _. seal ≡ None) → IfSome seal (λ s. stamps name s.stamp) → IfSome seal (λ s. IfOk r (λ b. s.hash ≡ sha256 b.items))
      → IfSome x (λ f. IsSealed seal f × (file_state f.state ≡ state_of p) × (p ≡ o)) → IfSome x (λ f. IsRecordOf holds stamps name f p)
  recorded_of r o p seal None held is none stamped hash sealed = tt
  recorded_of (Ok b) o p seal (Some f) held is none stamped hash sealed = sealed_record b o p seal f held is stamped hash sealed.0 sealed.1 sealed.2
  recorded_of (Err e) o p seal (Some f) held is none stamped hash sealed = absurd (no_seal seal f none sealed.0)

some_plain : (o p : Outcome) (x : Option (Vec ℕ)) → IfSome x (λ b. IsOutcomeOf b.items o) → ((file : List ℕ) → IsOutcomeOf file o → IsOutcomeOf file (plain_outcome p))
    → IfSome x (λ b. IsOutcomeOf b.items (plain_outcome p))
some_plain o p None is same = tt
some_plain o p (Some b) is same = same b.items is

-- the bytes from which a map is drawn are still those of the check
pub map_of : (o p : Outcome) (x y : Option (Vec ℕ)) → y ≡ x → IfSome x (λ b. IsOutcomeOf b.items o) → ((file : List ℕ) → IsOutcomeOf file o → IsOutcomeOf file (plain_outcome p))
    → IfSome y (λ b. IsOutcomeOf b.items (plain_outcome p))
map_of o p x y e is same = subst (λ (z : Option (Vec ℕ)). IfSome z (λ b. IsOutcomeOf b.items (plain_outcome p))) (sym e) (some_plain o p x is same)
