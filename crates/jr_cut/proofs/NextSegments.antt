-- The segments of a scan, one after the other in its file.
use Rattle.std.proofs.Common.{◌≡◌, ℕ, zero, suc, ◌+◌, ◌-◌, ◌%◌, ◌<◌, ◌≤◌, ◌⊎◌, inl, inr, List, [], ◌∷◌, ◌++◌, length, take, drop, replicate, get_or, refl, sym, ap, subst, ◌∙◌, length-append, length-drop, arith}
use Rattle.std.proofs.lemmas.List.{append-nil, drop-drop, get_or-drop}
use Rattle.jr_base.specs.declared.marker.TheConstants.{RST0}
use Rattle.jr_cut.specs.declared.scan_end.ScanEnd.{ScanEnd}
use Rattle.jr_cut.specs.Cut.{IsRaw, IsStop, IsEnding, CutFrom, marker}
use Rattle.jr_cut.specs.PartialSegments.{BeginsWithRestart}
use Rattle.jr_cut.proofs.Following.{last_cut, next_cut, restart_within}
use Rattle.jr_cut.proofs.Segments.{length_marker}
use Rattle.jr_cut.proofs.Slices.{length_front, split_at}
use Rattle.jr_cut.proofs.Spellings.{found_few}
use Rattle.jr_cut.proofs.Splits.{SplitCut, split_cut}
use Rattle.jr_cut.specs.declared.file_segments.CodedSpan.{CodedSpan}
use Rattle.jr_cut.specs.Coded.{BeginsSegment, EndsAfter, GoesOnAfter, HasEndedBefore, IsNextSegment, IsSegment, IsSpelledAt}

no_bytes : (bytes : List ℕ) → length bytes ≡ 0 → bytes ≡ []
no_bytes [] e = refl
no_bytes (b ∷ bs) e = absurd (omega (arith, e))

none_in : (n i : ℕ) → get_or (replicate {A = List ℕ} n []) i [] ≡ []
none_in zero i = refl
none_in (suc n) zero = refl
none_in (suc n) (suc i) = none_in n i

-- a segment of the file's bytes begins at one offset and ends at another
module _ (file : List ℕ) (n : ℕ) (datas : List (List ℕ)) (ended : ScanEnd) (i at len : ℕ) (found : List ℕ) (within : at + len ≤ length file) (raw : IsRaw (take len (drop at file)) found) (stop : IsStop (drop (at + len) file)) where
  abbrev end : ℕ
  end = at + len

  abbrev tail : List ℕ
  tail = drop end file

  -- if it is segment i
  module _ (b : BeginsSegment file n datas ended i at) where
    split : SplitCut n i (at + length (take len (drop at file))) found tail b.segments ended
    split = split_cut n i at (take len (drop at file)) found tail b.segments ended raw (subst (λ (x : List ℕ). CutFrom n i at x b.segments ended) (split_at file at len) b.cut)

    are : b.segments ≡ found ∷ split.others
    are = split.is ∙ ap (λ (x : List ℕ). (found ++ x) ∷ split.others) (split.none stop) ∙ ap (λ (x : List ℕ). x ∷ split.others) (append-nil found)

    there : drop i datas ≡ found ∷ (split.others ++ replicate b.empty [])
    there = b.intervals ∙ ap (λ (x : List (List ℕ)). x ++ replicate b.empty []) are

    its_data : get_or datas i [] ≡ found
    its_data =
        let here : i + 0 ≡ i = omega arith in
        ap (λ (k : ℕ). get_or datas k []) (sym here) ∙ sym (get_or-drop i datas 0 []) ∙ ap (λ (l : List (List ℕ)). get_or l 0 []) there

    after : drop (i + 1) datas ≡ split.others ++ replicate b.empty []
    after = sym (drop-drop 1 i datas) ∙ ap (drop 1) there

    cut : CutFrom n i end tail ([] ∷ split.others) ended
    cut =
        let long : at + length (take len (drop at file)) ≡ end = ap (λ (k : ℕ). at + k) (length_front file at len within) in
        subst (λ (o : ℕ). CutFrom n i o tail ([] ∷ split.others) ended) long (subst (λ (x : List ℕ). CutFrom n i (at + length (take len (drop at file))) tail (x ∷ split.others) ended) (split.none stop) split.cut)

    goes_on : (count : ℕ) → i + 1 < n → BeginsWithRestart i tail count → BeginsSegment file n datas ended (i + 1) (end + count)
    goes_on count space m =
        let c = next_cut n i end tail split.others ended cut m.more (drop count tail) space m.spelled in
        let place : end + (m.more + 2) ≡ end + count = omega (arith, m.long) in
        let cut1 = subst (λ (o : ℕ). CutFrom n (i + 1) o (drop count tail) (c.first ∷ c.after) ended) place c.cut in
        record {
          within = restart_within file end i count within m;
          segments = c.first ∷ c.after;
          empty = b.empty;
          cut = subst (λ (x : List ℕ). CutFrom n (i + 1) (end + count) x (c.first ∷ c.after) ended) (drop-drop count end file) cut1;
          intervals = after ∙ ap (λ (x : List (List ℕ)). x ++ replicate b.empty []) c.are;
        }

    ends : (e : ScanEnd) → IsEnding n i end tail e → (j : ℕ) → i + 1 ≤ j → get_or datas j [] ≡ []
    ends e ending j le =
        let others = last_cut n i end tail split.others ended cut end e ending in
        let place : i + 1 + (j - (i + 1)) ≡ j = omega (arith, le) in
        ap (λ (k : ℕ). get_or datas k []) (sym place) ∙ sym (get_or-drop (i + 1) datas (j - (i + 1)) []) ∙ ap (λ (l : List (List ℕ)). get_or l (j - (i + 1)) []) (after ∙ ap (λ (x : List (List ℕ)). x ++ replicate b.empty []) others)
        ∙ none_in b.empty (j - (i + 1))

  -- if the scan has ended before
  module _ (h : HasEndedBefore file datas i at) where
    no_data : found ≡ []
    no_data = no_bytes found (omega (arith, found_few (take len (drop at file)) found raw, length_front file at len within, within, h.last))

    no_marker : (count : ℕ) → BeginsWithRestart i tail count → ⊥
    no_marker count m = omega (arith, h.last, ap length m.spelled, length-append (marker m.more (RST0 + i % 8)) (drop count tail), length_marker m.more (RST0 + i % 8), length-drop end file)

  abbrev span : CodedSpan
  span = record { start = at; end = end }

  spelled_by : (bytes : List ℕ) → bytes ≡ found → IsSpelledAt file span bytes
  spelled_by bytes e =
      let size : end - at ≡ len = omega arith in
      record { order = omega arith; within = within; raw = subst (IsRaw (take (end - at) (drop at file))) (sym e) (subst (λ (k : ℕ). IsRaw (take k (drop at file)) found) (sym size) raw); stop = stop }

  pub spelled : IsSpelledAt file span found
  spelled = spelled_by found refl

  pub is_segment : IsNextSegment file n datas ended i at → IsSegment file n datas ended i span
  is_segment (inl b) = record { begins = inl b; spelled = spelled_by (get_or datas i []) (its_data b) }
  is_segment (inr h) = record { begins = inr h; spelled = spelled_by (get_or datas i []) (h.none i (omega arith) ∙ sym (no_data h)) }

  -- the offset at which the next one begins
  pub next_is : (next : ℕ) → GoesOnAfter file n i end next ⊎ EndsAfter file n i end next → IsNextSegment file n datas ended i at → IsNextSegment file n datas ended (i + 1) next
  next_is next (inl m) (inl b) = inl (subst (BeginsSegment file n datas ended (i + 1)) (sym m.is) (goes_on b m.count m.more m.due))
  next_is next (inl m) (inr h) = absurd (no_marker h m.count m.due)
  next_is next (inr e) (inl b) = inr (record { last = e.last; none = ends b e.ended e.ends })
  next_is next (inr e) (inr h) = inr (record { last = e.last; none = λ j le. h.none j (omega (arith, le)) })
