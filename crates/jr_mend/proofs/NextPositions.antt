-- The segments of an interval in copies, one copy after the other.
use Rattle.std.proofs.Common.{◌≡◌, ◌≢◌, ℕ, zero, suc, ◌+◌, ◌<◌, ◌≤◌, List, [], ◌∷◌, ◌++◌, length, get_or, set, sym, ap, subst, ◌∙◌, inl, inr, get_or-set_other, get_or-set_same, arith}
use Rattle.std.specs.List.{All, AllZip}
use Rattle.std.proofs.lemmas.Bool.{cases_lt}
use Rattle.std.proofs.lemmas.List.{get_or_default}
use Rattle.std.proofs.lemmas.Slice.Zip.{AllZip-long}
use Rattle.std.proofs.Math.ListN.{get_or-append}
use Rattle.std.proofs.Math.Seq.{get_or-append_seam}
use Rattle.jr_cut.specs.declared.file_segments.FileSegment.{FileSegment}
use Rattle.jr_damage.specs.Coded.{IsNextAt, IsSegmentOf}
use Rattle.jr_scan.specs.ScanValue.{ScanValue}
use Rattle.jr_mend.specs.Copies.{CopyValue}

-- in each copy the segment is that of interval i
abbrev pub AreSegmentsOf : List CopyValue → List FileSegment → (i : ℕ) → Type 0
AreSegmentsOf copies segments i = AllZip (λ (c : CopyValue) (s : FileSegment). IsSegmentOf c.file c.scan i s.bytes) copies segments

-- in each copy interval i is next after the segment
abbrev pub AreNextAt : List CopyValue → List FileSegment → (i : ℕ) → Type 0
AreNextAt copies segments i = AllZip (λ (c : CopyValue) (s : FileSegment). IsNextAt c.file c.scan i s.next) copies segments

-- a buffer of this capacity has space for the data of any segment of the copies
abbrev pub HasSpace : List CopyValue → ℕ → Type 0
HasSpace copies capacity = All (λ (c : CopyValue). length c.file < capacity) copies

-- what holds for the elements of two lists holds by their index
pub zip_at : {A B : Type 0} (R : A → B → Type 0) (xs : List A) (ys : List B) (k : ℕ) (d : A) (e : B) → AllZip R xs ys → k < length xs → R (get_or xs k d) (get_or ys k e)
zip_at R [] ys k d e all lt = absurd (omega (arith, lt))
zip_at R (x ∷ xs) [] k d e all lt = absurd all
zip_at R (x ∷ xs) (y ∷ ys) zero d e all lt = all.0
zip_at R (x ∷ xs) (y ∷ ys) (suc k) d e all lt = zip_at R xs ys k d e all.1 (omega (arith, lt))

pub zip_from : {A B : Type 0} (R : A → B → Type 0) (xs : List A) (ys : List B) → length ys ≡ length xs → ((k : ℕ) (d : A) (e : B) → k < length xs → R (get_or xs k d) (get_or ys k e)) → AllZip R xs ys
zip_from R [] [] long each = tt
zip_from R [] (y ∷ ys) long each = absurd (omega (arith, long))
zip_from R (x ∷ xs) [] long each = absurd (omega (arith, long))
zip_from R (x ∷ xs) (y ∷ ys) long each = (each 0 x y (omega arith), zip_from R xs ys (omega (arith, long)) (λ k d e lt. each (suc k) d e (omega (arith, lt))))

pub segments_long : (copies : List CopyValue) (segments : List FileSegment) (i : ℕ) → AreSegmentsOf copies segments i → length segments ≡ length copies
segments_long copies segments i are = AllZip-long (λ (c : CopyValue) (s : FileSegment). IsSegmentOf c.file c.scan i s.bytes) copies segments are

pub nexts_long : (copies : List CopyValue) (segments : List FileSegment) (i : ℕ) → AreNextAt copies segments i → length segments ≡ length copies
nexts_long copies segments i are = AllZip-long (λ (c : CopyValue) (s : FileSegment). IsNextAt c.file c.scan i s.next) copies segments are

pub next_within : (file : List ℕ) (s : ScanValue) (i at : ℕ) → IsNextAt file s i at → at ≤ length file
next_within file s i at (inl b) = b.within
next_within file s i at (inr h) = omega (arith, h.last)

-- in copy k interval i is next after the segment, or the segment is that of interval i
abbrev pub IsNextIn : List CopyValue → (i k : ℕ) → FileSegment → Type 0
IsNextIn copies i k s = (c : CopyValue) → IsNextAt (get_or copies k c).file (get_or copies k c).scan i s.next

abbrev pub IsSegmentIn : List CopyValue → (i k : ℕ) → FileSegment → Type 0
IsSegmentIn copies i k s = (c : CopyValue) → IsSegmentOf (get_or copies k c).file (get_or copies k c).scan i s.bytes

module _ (copies : List CopyValue) (i k : ℕ) (s : FileSegment) (copy : CopyValue) (lt : k < length copies) (is : copy ≡ get_or copies k copy) where
  pub next_in_copy : IsNextAt copy.file copy.scan i s.next → IsNextIn copies i k s
  next_in_copy next = λ c. subst (λ (d : CopyValue). IsNextAt d.file d.scan i s.next) (is ∙ get_or_default copies k copy c lt) next

  pub segment_in_copy : IsSegmentOf copy.file copy.scan i s.bytes → IsSegmentIn copies i k s
  segment_in_copy segment = λ c. subst (λ (d : CopyValue). IsSegmentOf d.file d.scan i s.bytes) (is ∙ get_or_default copies k copy c lt) segment

-- a copy's segment, and the space for its data
abbrev pub no_segment : FileSegment
no_segment = record { bytes = record { start = 0; end = 0 }; next = 0 }

pub segment_of : (copies : List CopyValue) (segments : List FileSegment) (i k : ℕ) (copy : CopyValue) → AreSegmentsOf copies segments i → k < length copies → copy ≡ get_or copies k copy → IsSegmentOf copy.file copy.scan i (get_or segments k no_segment).bytes
segment_of copies segments i k copy are lt is =
    subst (λ (d : CopyValue). IsSegmentOf d.file d.scan i (get_or segments k no_segment).bytes) (sym is) (zip_at (λ (c : CopyValue) (s : FileSegment). IsSegmentOf c.file c.scan i s.bytes) copies segments k copy no_segment are lt)

pub space_of : (copies : List CopyValue) (capacity k : ℕ) (copy : CopyValue) → HasSpace copies capacity → k < length copies → copy ≡ get_or copies k copy → length copy.file < capacity
space_of copies capacity k copy space lt is = subst (λ (d : CopyValue). length d.file < capacity) (sym is) (space k copy lt)

pub space_stays : (copies : List CopyValue) (old new : ℕ) → old ≤ new → HasSpace copies old → HasSpace copies new
space_stays copies old new le space = λ k d lt. omega (arith, space k d lt, le)

-- elements with a property that depends on their index, and one more with it
module _ {X : Type 0} (Has : ℕ → X → Type 0) (xs : List X) (k : ℕ) (x : X) (has : Has k x) where
  -- it is appended
  pub one_pushed : length xs ≡ k → ((j : ℕ) (d : X) → j < k → Has j (get_or xs j d)) → (j : ℕ) (d : X) → j < k + 1 → Has j (get_or (xs ++ x ∷ []) j d)
  one_pushed long before j d few = elim (cases_lt j k) [
    | inl h ↦ subst (Has j) (sym (get_or-append xs (x ∷ []) d j (omega (arith, h, long)))) (before j d h)
    | inr h ↦
        let same : j ≡ k = omega (arith, h, few) in
        let last : get_or (xs ++ x ∷ []) j d ≡ x = ap (λ (n : ℕ). get_or (xs ++ x ∷ []) n d) (same ∙ sym long) ∙ get_or-append_seam xs x [] d in
        subst (Has j) (sym last) (subst (λ (n : ℕ). Has n x) (sym same) has)
  ]

  -- it replaces one
  pub one_set : k < length xs → ((j : ℕ) (d : X) → j < k → Has j (get_or xs j d)) → (j : ℕ) (d : X) → j < k + 1 → Has j (get_or (set xs k x) j d)
  one_set within before j d few = elim (cases_lt j k) [
    | inl h ↦
        let ne : j ≢ k = λ e. omega (arith, e, h) in
        subst (Has j) (sym (get_or-set_other xs k j x d ne)) (before j d h)
    | inr h ↦
        let same : j ≡ k = omega (arith, h, few) in
        let last : get_or (set xs k x) j d ≡ x = ap (λ (n : ℕ). get_or (set xs k x) n d) same ∙ get_or-set_same xs k x d within in
        subst (Has j) (sym last) (subst (λ (n : ℕ). Has n x) (sym same) has)
  ]
