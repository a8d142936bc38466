-- Files that are counted one after the other.
use Rattle.std.proofs.Common.{arith, subst, sym, ap, refl, ◌∙◌, ◌≡◌, ℕ, List, [], ◌∷◌, ◌++◌, length, get_or, ◌+◌, ◌-◌, ◌^◌, ◌<◌, inl, inr}
use Rattle.std.specs.Prelude.{min, sum_by}
use Rattle.std.proofs.Math.Nat.{min-eq_left, min-eq_right}
use Rattle.std.proofs.lemmas.Bool.{cases_lt}
use Rattle.std.proofs.lemmas.List.Sums.{sum_by-append}
use Rattle.std.proofs.lemmas.List.{get_or_append_left, length-append}
use Rattle.std.proofs.Math.Seq.{get_or-append_seam}
use Rattle.jri_archive.specs.declared.counts.FileCounts.{FileCounts}
use Rattle.jri_archive.specs.declared.counts.FileState.{FileState}
use Rattle.jri_archive.specs.declared.counts.FileState.TheVariants.{Sound, Damaged, Refused, Unsupported, Unread, OutOfMemory, Skipped, Changed}
use Rattle.jri_archive.specs.declared.outcome.Outcome.{Outcome}
use Rattle.jri_archive.specs.Outcomes.{state_of}
use Rattle.jri_archive.specs.Status.{counts_with}
use Rattle.jri_archive.specs.Reporting.{AreCounted, AreSomeReported, AreReported, IsReportedOf, count_of, same_state}

summed : (s state : FileState) (xs : List FileState) → sum_by (same_state s) (xs ++ state ∷ []) ≡ sum_by (same_state s) xs + same_state s state
summed s state xs = sum_by-append (same_state s) xs (state ∷ []) ∙ (let e : sum_by (same_state s) (state ∷ []) ≡ same_state s state = omega arith in ap (λ (n : ℕ). sum_by (same_state s) xs + n) e)

min_more : (a m : ℕ) → min (min a m + 1) m ≡ min (a + 1) m
min_more a m = elim (cases_lt a m) [
  | inl lt ↦ ap (λ (n : ℕ). min (n + 1) m) (min-eq_left (omega (arith, lt)))
  | inr le ↦ ap (λ (n : ℕ). min (n + 1) m) (min-eq_right le) ∙ min-eq_right (omega arith) ∙ sym (min-eq_right (omega (arith, le)))
]

one_of : (s state : FileState) (xs : List FileState) (n : ℕ) → same_state s state ≡ 1 → n ≡ count_of s xs → min (n + 1) (2 ^ 64 - 1) ≡ count_of s (xs ++ state ∷ [])
one_of s state xs n one is =
    ap (λ (k : ℕ). min (k + 1) (2 ^ 64 - 1)) is ∙ min_more (sum_by (same_state s) xs) (2 ^ 64 - 1)
    ∙ ap (λ (k : ℕ). min k (2 ^ 64 - 1)) (ap (λ (k : ℕ). sum_by (same_state s) xs + k) (sym one) ∙ sym (summed s state xs))

none_of : (s state : FileState) (xs : List FileState) (n : ℕ) → same_state s state ≡ 0 → n ≡ count_of s xs → n ≡ count_of s (xs ++ state ∷ [])
none_of s state xs n none is =
    let same : sum_by (same_state s) xs ≡ sum_by (same_state s) (xs ++ state ∷ []) = omega (arith, summed s state xs, none) in
    is ∙ ap (λ (k : ℕ). min k (2 ^ 64 - 1)) same

counted_more : (c : FileCounts) (xs : List FileState) (state : FileState) → AreCounted c xs → AreCounted (counts_with c state) (xs ++ state ∷ [])
counted_more c xs Sound a = record {
  sound = one_of Sound Sound xs c.sound refl a.sound;
  damaged = none_of Damaged Sound xs c.damaged refl a.damaged;
  refused = none_of Refused Sound xs c.refused refl a.refused;
  unsupported = none_of Unsupported Sound xs c.unsupported refl a.unsupported;
  unread = none_of Unread Sound xs c.unread refl a.unread;
  out_of_memory = none_of OutOfMemory Sound xs c.out_of_memory refl a.out_of_memory;
  changed = none_of Changed Sound xs c.changed refl a.changed;
}
counted_more c xs Damaged a = record {
  sound = none_of Sound Damaged xs c.sound refl a.sound;
  damaged = one_of Damaged Damaged xs c.damaged refl a.damaged;
  refused = none_of Refused Damaged xs c.refused refl a.refused;
  unsupported = none_of Unsupported Damaged xs c.unsupported refl a.unsupported;
  unread = none_of Unread Damaged xs c.unread refl a.unread;
  out_of_memory = none_of OutOfMemory Damaged xs c.out_of_memory refl a.out_of_memory;
  changed = none_of Changed Damaged xs c.changed refl a.changed;
}
counted_more c xs Refused a = record {
  sound = none_of Sound Refused xs c.sound refl a.sound;
  damaged = none_of Damaged Refused xs c.damaged refl a.damaged;
  refused = one_of Refused Refused xs c.refused refl a.refused;
  unsupported = none_of Unsupported Refused xs c.unsupported refl a.unsupported;
  unread = none_of Unread Refused xs c.unread refl a.unread;
  out_of_memory = none_of OutOfMemory Refused xs c.out_of_memory refl a.out_of_memory;
  changed = none_of Changed Refused xs c.changed refl a.changed;
}
counted_more c xs Unsupported a = record {
  sound = none_of Sound Unsupported xs c.sound refl a.sound;
  damaged = none_of Damaged Unsupported xs c.damaged refl a.damaged;
  refused = none_of Refused Unsupported xs c.refused refl a.refused;
  unsupported = one_of Unsupported Unsupported xs c.unsupported refl a.unsupported;
  unread = none_of Unread Unsupported xs c.unread refl a.unread;
  out_of_memory = none_of OutOfMemory Unsupported xs c.out_of_memory refl a.out_of_memory;
  changed = none_of Changed Unsupported xs c.changed refl a.changed;
}
counted_more c xs Unread a = record {
  sound = none_of Sound Unread xs c.sound refl a.sound;
  damaged = none_of Damaged Unread xs c.damaged refl a.damaged;
  refused = none_of Refused Unread xs c.refused refl a.refused;
  unsupported = none_of Unsupported Unread xs c.unsupported refl a.unsupported;
  unread = one_of Unread Unread xs c.unread refl a.unread;
  out_of_memory = none_of OutOfMemory Unread xs c.out_of_memory refl a.out_of_memory;
  changed = none_of Changed Unread xs c.changed refl a.changed;
}
counted_more c xs OutOfMemory a = record {
  sound = none_of Sound OutOfMemory xs c.sound refl a.sound;
  damaged = none_of Damaged OutOfMemory xs c.damaged refl a.damaged;
  refused = none_of Refused OutOfMemory xs c.refused refl a.refused;
  unsupported = none_of Unsupported OutOfMemory xs c.unsupported refl a.unsupported;
  unread = none_of Unread OutOfMemory xs c.unread refl a.unread;
  out_of_memory = one_of OutOfMemory OutOfMemory xs c.out_of_memory refl a.out_of_memory;
  changed = none_of Changed OutOfMemory xs c.changed refl a.changed;
}
counted_more c xs Skipped a = record {
  sound = none_of Sound Skipped xs c.sound refl a.sound;
  damaged = none_of Damaged Skipped xs c.damaged refl a.damaged;
  refused = none_of Refused Skipped xs c.refused refl a.refused;
  unsupported = none_of Unsupported Skipped xs c.unsupported refl a.unsupported;
  unread = none_of Unread Skipped xs c.unread refl a.unread;
  out_of_memory = none_of OutOfMemory Skipped xs c.out_of_memory refl a.out_of_memory;
  changed = none_of Changed Skipped xs c.changed refl a.changed;
}
counted_more c xs Changed a = record {
  sound = none_of Sound Changed xs c.sound refl a.sound;
  damaged = none_of Damaged Changed xs c.damaged refl a.damaged;
  refused = none_of Refused Changed xs c.refused refl a.refused;
  unsupported = none_of Unsupported Changed xs c.unsupported refl a.unsupported;
  unread = none_of Unread Changed xs c.unread refl a.unread;
  out_of_memory = none_of OutOfMemory Changed xs c.out_of_memory refl a.out_of_memory;
  changed = one_of Changed Changed xs c.changed refl a.changed;
}

reported_of : (may_be : List ℕ → Outcome → Type 0) (names : List (List ℕ)) (xs : List FileState) (state : FileState) (o : Outcome)
    → ((k : ℕ) → k < length xs → IsReportedOf may_be names xs k) → may_be (get_or names (length xs) []) o → state ≡ state_of o
    → (k : ℕ) → k < length xs + 1 → IsReportedOf may_be names (xs ++ state ∷ []) k
reported_of may_be names xs state o each is state_is k lt = elim (cases_lt k (length xs)) [
  | inl before ↦ (let t = each k before in record { outcome = t.outcome; is = t.is; state = get_or_append_left xs (state ∷ []) OutOfMemory k before ∙ t.state })
  | inr last ↦ (
      let e : k ≡ length xs = omega (arith, last, lt) in
      record {
        outcome = o;
        is = subst (λ (n : ℕ). may_be (get_or names n []) o) (sym e) is;
        state = ap (λ (n : ℕ). get_or (xs ++ state ∷ []) n OutOfMemory) e ∙ get_or-append_seam xs state [] OutOfMemory ∙ state_is;
      })
]

-- the same if the file's name is added to the names
found_of : (may_be : List ℕ → Outcome → Type 0) (names : List (List ℕ)) (xs : List FileState) (name : List ℕ) (state : FileState) (o : Outcome) → length xs ≡ length names
    → ((k : ℕ) → k < length names → IsReportedOf may_be names xs k) → may_be name o → state ≡ state_of o
    → (k : ℕ) → k < length names + 1 → IsReportedOf may_be (names ++ name ∷ []) (xs ++ state ∷ []) k
found_of may_be names xs name state o long each is state_is k lt = elim (cases_lt k (length names)) [
  | inl before ↦ (
      let t = each k before in
      record {
        outcome = t.outcome;
        is = subst (λ (n : List ℕ). may_be n t.outcome) (sym (get_or_append_left names (name ∷ []) [] k before)) t.is;
        state = get_or_append_left xs (state ∷ []) OutOfMemory k (omega (arith, before, long)) ∙ t.state;
      })
  | inr last ↦ (
      let e : k ≡ length names = omega (arith, last, lt) in
      let here : get_or (names ++ name ∷ []) k [] ≡ name = ap (λ (n : ℕ). get_or (names ++ name ∷ []) n []) e ∙ get_or-append_seam names name [] [] in
      let at : k ≡ length xs = omega (arith, e, long) in
      record {
        outcome = o;
        is = subst (λ (n : List ℕ). may_be n o) (sym here) is;
        state = ap (λ (n : ℕ). get_or (xs ++ state ∷ []) n OutOfMemory) at ∙ get_or-append_seam xs state [] OutOfMemory ∙ state_is;
      })
]

-- no file is reported yet
pub none_found : (may_be : List ℕ → Outcome → Type 0) (c : FileCounts) → AreCounted c [] → AreSomeReported may_be c
none_found may_be c none = record { names = []; reported = record { states = []; long = refl; counted = none; each = λ k lt. absurd (omega (arith, lt)) } }

-- one more file is reported, of some name
pub found_more : (may_be : List ℕ → Outcome → Type 0) (c : FileCounts) (name : List ℕ) (state : FileState) (o : Outcome) → may_be name o → state ≡ state_of o → AreSomeReported may_be c → AreSomeReported may_be (counts_with c state)
found_more may_be c name state o is state_is found =
    let t = found.reported in
    let names = found.names in
    record {
      names = names ++ name ∷ [];
      reported = record {
        states = t.states ++ state ∷ [];
        long = omega (arith, length-append t.states (state ∷ []), length-append names (name ∷ []), t.long);
        counted = counted_more c t.states state t.counted;
        each = λ k lt. found_of may_be names t.states name state o t.long t.each is state_is k (omega (arith, lt, length-append names (name ∷ [])));
      };
    }

-- one more file is reported
pub reported_more : (may_be : List ℕ → Outcome → Type 0) (names : List (List ℕ)) (reported : ℕ) (c : FileCounts) (state : FileState) (o : Outcome)
    → may_be (get_or names reported []) o → state ≡ state_of o → AreReported may_be names reported c → AreReported may_be names (reported + 1) (counts_with c state)
reported_more may_be names reported c state o is state_is t = record {
  states = t.states ++ state ∷ [];
  long = omega (arith, length-append t.states (state ∷ []), t.long);
  counted = counted_more c t.states state t.counted;
  each = λ k lt. reported_of may_be names t.states state o (λ j before. t.each j (omega (arith, before, t.long)))
      (subst (λ (n : ℕ). may_be (get_or names n []) o) (sym t.long) is) state_is k (omega (arith, lt, t.long));
}
