-- Bytes after EOI change nothing.
use Rattle.std.proofs.Common.{◌≡◌, ℕ, zero, suc, ◌+◌, ◌-◌, ◌*◌, ◌%◌, ◌⊎◌, Bool, true, false, cond, List, Option, [], ◌∷◌, ◌++◌, length, take, drop, replicate, refl, sym, ap, subst, ◌∙◌, inl, inr, append_assoc, arith}
use Rattle.std.specs.Prelude.{not, ◌&&◌, ◌||◌, ◌==◌, nat_le, nat_lt}
use Rattle.std.specs.List.{flat_map}
use Rattle.std.proofs.lemmas.Bool.{and_left, and_right, and_from, cond-true, cond-false, eq-eqb, ne_eqb}
use Rattle.std.proofs.lemmas.List.{drop-append-le, take-append-le}
use Rattle.jr_base.specs.declared.marker.TheConstants.{EOI, PREFIX, RST0, SOI}
use Rattle.jr_cut.specs.declared.scan_end.ScanEnd.{ScanEnd}
use Rattle.jr_cut.specs.declared.scan_end.ScanEnd.TheVariants.{EndOfImage}
use Rattle.jr_cut.specs.Cut.{HasMarker, marker}
use Rattle.jr_head.specs.HeadValue.{HeadValue}
use Rattle.jr_head.specs.Heads.{HeadOf}
use Rattle.jr_head.proofs.HeadStays.{scan_within}
use Rattle.jr_scan.specs.ScanValue.{intervals_of}
use Rattle.jr_mend.specs.declared.markers.ScanMarker.{ScanMarker}
use Rattle.jr_mend.specs.declared.outlook.TheConstants.{MAX_EARLY, SURE_BYTES}
use Rattle.jr_mend.specs.declared.resync.Resynced.{Resynced}
use Rattle.jr_mend.specs.declared.markers.TheConstants.{MAX_STRAY, TEM}
use Rattle.jr_mend.specs.Markers.{as_read, continues, count_up, counted_back, goes_on, has_end, held, is_back, is_false_end, is_next, is_over, is_restart, is_run, markers_in, most_missing, restarts, scan_bytes, scan_markers}
use Rattle.jr_mend.specs.Reading.{IsResynced}
use Rattle.jr_mend.specs.Resync.{AreParts, EndsResync, IsMeaning, IsResync, MeansIn, Part, PartsFrom, Resync, number_after, part_bytes, since_after}
use Rattle.jr_mend.specs.Splice.{coded_intervals}
use Rattle.jr_mend.proofs.MarkersLaw.{is_marker, marker_on, over_is}

-- ---- markers that are equal up to EOI

-- the scan continues in neither list
abbrev BothEnd : (n : ℕ) → List ScanMarker → List ScanMarker → Type 0
BothEnd n xs ys = (goes_on n xs ≡ false) × (goes_on n ys ≡ false)

abbrev SameToEnd : (n : ℕ) → List ScanMarker → List ScanMarker → Type 0
SameToEnd n [] ys = ⊥
SameToEnd n (x ∷ xs) [] = ⊥
SameToEnd n (x ∷ xs) (y ∷ ys) = (x ≡ y) × (((x.code ≡ EOI) × BothEnd n xs ys) ⊎ SameToEnd n xs ys)

-- equal bytes and EOI, and different bytes after it
module _ (n more : ℕ) (y z : List ℕ) (both : BothEnd n (markers_in 0 y) (markers_in 0 z)) where
  abbrev one : List ℕ
  one = marker more EOI ++ y

  abbrev other : List ℕ
  other = marker more EOI ++ z

  at_end : (before : ℕ) → SameToEnd n (markers_in before one) (markers_in before other)
  at_end before =
      let a = marker_on before more EOI y (λ e. omega arith) (λ e. omega arith) in
      let b = marker_on before more EOI z (λ e. omega arith) (λ e. omega arith) in
      let m : ScanMarker = record { before = before + more; code = EOI } in
      let same : SameToEnd n (m ∷ markers_in 0 y) (m ∷ markers_in 0 z) = (refl, inl (refl, both)) in
      subst (λ (ms : List ScanMarker). SameToEnd n (markers_in before one) ms) (sym b) (subst (λ (ms : List ScanMarker). SameToEnd n ms (m ∷ markers_in 0 z)) (sym a) same)

  -- FF is not a code
  no_code : (before x : ℕ) (bytes : List ℕ) → markers_in before (x ∷ (PREFIX ∷ bytes)) ≡ markers_in (suc before) (PREFIX ∷ bytes)
  no_code before x bytes = cond-false (is_marker x PREFIX) _ _ (and_right (x == PREFIX) (not (PREFIX == 0) && not (PREFIX == PREFIX)) refl)

  to_end : (before : ℕ) (bytes : List ℕ) → SameToEnd n (markers_in before (bytes ++ one)) (markers_in before (bytes ++ other))
  to_end before [] = at_end before
  to_end before (x ∷ []) =
      subst (λ (ms : List ScanMarker). SameToEnd n (markers_in before (x ∷ one)) ms) (sym (no_code before x ((replicate more PREFIX ++ EOI ∷ []) ++ z))) (subst (λ (ms : List ScanMarker). SameToEnd n ms (markers_in (suc before) other)) (sym (no_code before x ((replicate more PREFIX ++ EOI ∷ []) ++ y))) (at_end (suc before)))
  to_end before (x ∷ c ∷ bytes) = go (is_marker x c) (to_end 0 bytes) (to_end (suc before) (c ∷ bytes))
    where
      go : (t : Bool) → SameToEnd n (markers_in 0 (bytes ++ one)) (markers_in 0 (bytes ++ other)) → SameToEnd n (markers_in (suc before) (c ∷ (bytes ++ one))) (markers_in (suc before) (c ∷ (bytes ++ other)))
          → SameToEnd n (cond t ((record { before = before; code = c }) ∷ markers_in 0 (bytes ++ one)) (markers_in (suc before) (c ∷ (bytes ++ one)))) (cond t ((record { before = before; code = c }) ∷ markers_in 0 (bytes ++ other)) (markers_in (suc before) (c ∷ (bytes ++ other))))
      go true marked others = (refl, inr marked)
      go false marked others = others

-- ---- the same, with TEM for each EOI after which the scan continues

-- two lists of markers are equal up to an EOI
abbrev ReadToEnd : List ScanMarker → List ScanMarker → Type 0
ReadToEnd [] ys = ⊥
ReadToEnd (x ∷ xs) [] = ⊥
ReadToEnd (x ∷ xs) (y ∷ ys) = (x ≡ y) × ((x.code ≡ EOI) ⊎ ReadToEnd xs ys)

next_is_no_end : (code next : ℕ) → next ≡ EOI → is_next code next ≡ false
next_is_no_end code next eoi = and_right (is_restart code) (next == RST0 + (suc code - RST0) % 8) (ne_eqb next (RST0 + (suc code - RST0) % 8) (λ e. omega (arith, e, eoi)))

end_is_no_restart : (code next : ℕ) → code ≡ EOI → is_next code next ≡ false
end_is_no_restart code next eoi = ap (λ (c : ℕ). is_next c next) eoi

counted_up_ends : (a : ScanMarker) (xs : List ScanMarker) → a.code ≡ EOI → count_up (a ∷ xs) ≡ false
unfolding count_up
counted_up_ends a [] eoi = refl
counted_up_ends a (b ∷ []) eoi = refl
counted_up_ends a (b ∷ (c ∷ xs)) eoi = and_left (is_next a.code b.code) (is_next b.code c.code) (end_is_no_restart a.code b.code eoi)

counted_up_then_ends : (a b : ScanMarker) (xs : List ScanMarker) → b.code ≡ EOI → count_up (a ∷ (b ∷ xs)) ≡ false
unfolding count_up
counted_up_then_ends a b [] eoi = refl
counted_up_then_ends a b (c ∷ xs) eoi = and_left (is_next a.code b.code) (is_next b.code c.code) (next_is_no_end a.code b.code eoi)

-- both lists count up, or neither does
same_count_up : (n : ℕ) (x : ScanMarker) (xs ys : List ScanMarker) → SameToEnd n xs ys → count_up (x ∷ xs) ≡ count_up (x ∷ ys)
unfolding count_up
same_count_up n x [] ys s = absurd s
same_count_up n x (a ∷ xs) [] s = absurd s
same_count_up n x (a ∷ xs) (b ∷ ys) (e, inl end) = counted_up_then_ends x a xs end.0 ∙ sym (counted_up_then_ends x b ys (sym (ap (λ (m : ScanMarker). m.code) e) ∙ end.0))
same_count_up n x (a ∷ []) (b ∷ ys) (e, inr s) = absurd s
same_count_up n x (a ∷ (c ∷ xs)) (b ∷ []) (e, inr s) = absurd s
same_count_up n x (a ∷ (c ∷ xs)) (b ∷ (d ∷ ys)) (e, inr s) = ap (λ (m : ScanMarker). is_next x.code m.code && is_next m.code c.code) e ∙ ap (λ (m : ScanMarker). is_next x.code b.code && is_next b.code m.code) s.0

-- the scan continues in both, or in neither
same_continues : (n others : ℕ) (xs ys : List ScanMarker) → SameToEnd n xs ys → continues others xs ≡ continues others ys
unfolding continues
same_continues n others [] ys s = absurd s
same_continues n others (x ∷ xs) [] s = absurd s
same_continues n zero (x ∷ xs) (y ∷ ys) (e, inl end) = counted_up_ends x xs end.0 ∙ sym (counted_up_ends y ys (sym (ap (λ (m : ScanMarker). m.code) e) ∙ end.0))
same_continues n zero (x ∷ xs) (y ∷ ys) (e, inr s) = same_count_up n x xs ys s ∙ ap (λ (m : ScanMarker). count_up (m ∷ ys)) e
same_continues n (suc others) (x ∷ xs) (y ∷ ys) (e, inl end) = stops x xs end.0 ∙ sym (stops y ys (sym (ap (λ (m : ScanMarker). m.code) e) ∙ end.0))
  where
    stops : (m : ScanMarker) (ms : List ScanMarker) → m.code ≡ EOI → (count_up (m ∷ ms) || (not (m.code == SOI || m.code == EOI) && continues others ms)) ≡ false
    stops m ms eoi =
        let here : not (m.code == SOI || m.code == EOI) ≡ false = ap (λ (c : ℕ). not (c == SOI || c == EOI)) eoi in
        ap (λ (b : Bool). b || (not (m.code == SOI || m.code == EOI) && continues others ms)) (counted_up_ends m ms eoi) ∙ and_left (not (m.code == SOI || m.code == EOI)) (continues others ms) here
same_continues n (suc others) (x ∷ xs) (y ∷ ys) (e, inr s) =
    ap (λ (b : Bool). b || (not (x.code == SOI || x.code == EOI) && continues others xs)) (same_count_up n x xs ys s)
    ∙ ap (λ (b : Bool). count_up (x ∷ ys) || (not (x.code == SOI || x.code == EOI) && b)) (same_continues n others xs ys s)
    ∙ ap (λ (m : ScanMarker). count_up (m ∷ ys) || (not (m.code == SOI || m.code == EOI) && continues others ys)) e

-- ---- both lists have the same counts

record Agree (n : ℕ) (xs ys : List ScanMarker) : Type 0 where
  size : scan_bytes xs ≡ scan_bytes ys
  count : restarts xs ≡ restarts ys
  back : counted_back n xs ≡ counted_back n ys
  end : has_end xs ≡ has_end ys
  run : (number bytes : ℕ) → is_run number bytes xs ≡ is_run number bytes ys

-- the first marker is EOI
module _ (n : ℕ) (m : ScanMarker) (xs ys : List ScanMarker) (eoi : m.code ≡ EOI) where
  is : (m.code == EOI) ≡ true
  is = eq-eqb m.code EOI eoi

  first_ends : Agree n (m ∷ xs) (m ∷ ys)
  first_ends = record {
    size = ap (λ (k : ℕ). m.before + 2 + k) (cond-true (m.code == EOI) 0 (scan_bytes xs) is ∙ sym (cond-true (m.code == EOI) 0 (scan_bytes ys) is));
    count = cond-true (m.code == EOI) _ _ is ∙ sym (cond-true (m.code == EOI) _ _ is);
    back = cond-true (m.code == EOI) _ _ is ∙ sym (cond-true (m.code == EOI) _ _ is);
    end = ap (λ (b : Bool). b || has_end xs) is ∙ sym (ap (λ (b : Bool). b || has_end ys) is);
    run = λ number bytes. cond-true (m.code == EOI) _ _ is ∙ sym (cond-true (m.code == EOI) _ _ is);
  }

-- the markers after the first have the same counts
first_goes : (n : ℕ) (m : ScanMarker) (xs ys : List ScanMarker) → Agree n xs ys → Agree n (m ∷ xs) (m ∷ ys)
first_goes n m xs ys a = record {
  size = ap (λ (k : ℕ). m.before + 2 + cond (m.code == EOI) 0 k) a.size;
  count = ap (λ (k : ℕ). cond (m.code == EOI) 0 (cond (is_restart m.code) (suc k) k)) a.count;
  back = ap (λ (k : ℕ). cond (m.code == EOI) 0 (cond (is_restart m.code && ((k == restarts xs) && is_back n (suc (restarts xs)) m.code)) (suc k) k)) a.back
      ∙ ap (λ (r : ℕ). cond (m.code == EOI) 0 (cond (is_restart m.code && ((counted_back n ys == r) && is_back n (suc r) m.code)) (suc (counted_back n ys)) (counted_back n ys))) a.count;
  end = ap (λ (b : Bool). (m.code == EOI) || b) a.end;
  run = λ number bytes.
      ap (λ (b : Bool). cond (m.code == EOI) false (cond (is_restart m.code) ((m.code == RST0 + number % 8) && (nat_le bytes (m.before + 2) || b)) (is_run number (bytes - (m.before + 2)) xs))) (a.run (suc number) (bytes - (m.before + 2)))
      ∙ ap (λ (b : Bool). cond (m.code == EOI) false (cond (is_restart m.code) ((m.code == RST0 + number % 8) && (nat_le bytes (m.before + 2) || is_run (suc number) (bytes - (m.before + 2)) ys)) b)) (a.run number (bytes - (m.before + 2)));
}

agree : (n : ℕ) (xs ys : List ScanMarker) → ReadToEnd xs ys → Agree n xs ys
agree n [] ys s = absurd s
agree n (x ∷ xs) [] s = absurd s
agree n (x ∷ xs) (y ∷ ys) (e, inl eoi) = subst (λ (m : ScanMarker). Agree n (x ∷ xs) (m ∷ ys)) e (first_ends n x xs ys eoi)
agree n (x ∷ xs) (y ∷ ys) (e, inr s) = subst (λ (m : ScanMarker). Agree n (x ∷ xs) (m ∷ ys)) e (first_goes n x xs ys (agree n xs ys s))

forget : (n : ℕ) (xs ys : List ScanMarker) → SameToEnd n xs ys → ReadToEnd xs ys
forget n [] ys s = absurd s
forget n (x ∷ xs) [] s = absurd s
forget n (x ∷ xs) (y ∷ ys) (e, inl end) = (e, inl end.0)
forget n (x ∷ xs) (y ∷ ys) (e, inr s) = (e, inr (forget n xs ys s))

same_goes_on : (n : ℕ) (xs ys : List ScanMarker) → SameToEnd n xs ys → goes_on n xs ≡ goes_on n ys
same_goes_on n xs ys s =
    ap (λ (b : Bool). b && nat_lt (restarts xs) n) (same_continues n MAX_STRAY xs ys s)
    ∙ ap (λ (k : ℕ). continues MAX_STRAY ys && nat_lt k n) ((agree n xs ys (forget n xs ys s)).count)

same_read : (n : ℕ) (xs ys : List ScanMarker) → SameToEnd n xs ys → ReadToEnd (as_read n xs) (as_read n ys)
same_read n [] ys s = absurd s
same_read n (x ∷ xs) [] s = absurd s
same_read n (x ∷ xs) (y ∷ ys) (e, inl end) = subst (λ (m : ScanMarker). ReadToEnd (as_read n (x ∷ xs)) (as_read n (m ∷ ys))) e (ends (is_false_end n x xs) (is_false_end n x ys) (and_right (x.code == EOI) (goes_on n xs) end.1.0) (and_right (x.code == EOI) (goes_on n ys) end.1.1))
  where
    ends : (s t : Bool) → s ≡ false → t ≡ false → ReadToEnd (cond s (record { before = x.before; code = TEM }) x ∷ as_read n xs) (cond t (record { before = x.before; code = TEM }) x ∷ as_read n ys)
    ends false false a b = (refl, inl end.0)
    ends true t a b = absurd cc
    ends false true a b = absurd cc
same_read n (x ∷ xs) (y ∷ ys) (e, inr s) =
    let same : is_false_end n x xs ≡ is_false_end n y ys = ap (λ (b : Bool). (x.code == EOI) && b) (same_goes_on n xs ys s) ∙ ap (λ (m : ScanMarker). is_false_end n m ys) e in
    (ap (λ (b : Bool). cond b (record { before = x.before; code = TEM }) x) same ∙ ap (λ (m : ScanMarker). cond (is_false_end n y ys) (record { before = m.before; code = TEM }) m) e, inr (same_read n xs ys s))

-- both lists have the same maximum number of missing segments
module _ (n size since k : ℕ) (m : ScanMarker) (xs ys : List ScanMarker) where
  -- this maximum, by the counts of all markers and the run of those after the first
  abbrev most_by : (ended counted : Bool) (left : ℕ) (run : Bool) → ℕ
  most_by ended counted left run =
      cond (not (nat_le (2 * n) size)) 0 (cond (ended && counted) (n - left - suc k) (held n size since - 1 + cond run MAX_EARLY 0))

  most_goes : Agree n xs ys → most_missing n size since k (m ∷ xs) ≡ most_missing n size since k (m ∷ ys)
  most_goes a =
      let all = first_goes n m xs ys a in
      let run = a.run (suc m.code - RST0) SURE_BYTES in
      let counted : (counted_back n (m ∷ xs) == restarts (m ∷ xs)) ≡ (counted_back n (m ∷ ys) == restarts (m ∷ ys)) = ap (λ (b : ℕ). b == restarts (m ∷ xs)) all.back ∙ ap (λ (r : ℕ). counted_back n (m ∷ ys) == r) all.count in
      ap (λ (e : Bool). most_by e (counted_back n (m ∷ xs) == restarts (m ∷ xs)) (restarts (m ∷ xs)) (is_run (suc m.code - RST0) SURE_BYTES xs)) all.end
      ∙ ap (λ (c : Bool). most_by (has_end (m ∷ ys)) c (restarts (m ∷ xs)) (is_run (suc m.code - RST0) SURE_BYTES xs)) counted
      ∙ ap (λ (l : ℕ). most_by (has_end (m ∷ ys)) (counted_back n (m ∷ ys) == restarts (m ∷ ys)) l (is_run (suc m.code - RST0) SURE_BYTES xs)) all.count
      ∙ ap (λ (r : Bool). most_by (has_end (m ∷ ys)) (counted_back n (m ∷ ys) == restarts (m ∷ ys)) (restarts (m ∷ ys)) r) run

  most_ends : m.code ≡ EOI → most_missing n size since k (m ∷ xs) ≡ most_missing n size since k (m ∷ ys)
  most_ends eoi = all xs ∙ sym (all ys)
    where
      on : (m.code == EOI) ≡ true
      on = eq-eqb m.code EOI eoi

      all : (ms : List ScanMarker) → most_missing n size since k (m ∷ ms) ≡ cond (not (nat_le (2 * n) size)) 0 (n - 0 - suc k)
      all ms =
          let end : has_end (m ∷ ms) ≡ true = ap (λ (b : Bool). b || has_end ms) on in
          let none : restarts (m ∷ ms) ≡ 0 = cond-true (m.code == EOI) _ _ on in
          let back : counted_back n (m ∷ ms) ≡ 0 = cond-true (m.code == EOI) _ _ on in
          let both : (has_end (m ∷ ms) && (counted_back n (m ∷ ms) == restarts (m ∷ ms))) ≡ true = and_from _ _ end (eq-eqb _ _ (back ∙ sym none)) in
          ap (cond (not (nat_le (2 * n) size)) 0) (cond-true (has_end (m ∷ ms) && (counted_back n (m ∷ ms) == restarts (m ∷ ms))) _ _ both ∙ ap (λ (l : ℕ). n - l - suc k) none)

most_same : (n size since k : ℕ) (xs ys : List ScanMarker) → ReadToEnd xs ys → most_missing n size since k xs ≡ most_missing n size since k ys
most_same n size since k [] ys s = absurd s
most_same n size since k (x ∷ xs) [] s = absurd s
most_same n size since k (x ∷ xs) (y ∷ ys) (e, inl eoi) = most_ends n size since k x xs ys eoi ∙ ap (λ (m : ScanMarker). most_missing n size since k (m ∷ ys)) e
most_same n size since k (x ∷ xs) (y ∷ ys) (e, inr s) = most_goes n size since k x xs ys (agree n xs ys s) ∙ ap (λ (m : ScanMarker). most_missing n size since k (m ∷ ys)) e

-- ---- a scan that EOI ends, and more bytes after it

-- the first marker ends both scans, or neither
same_over : (n : ℕ) (xs ys : List ScanMarker) → SameToEnd n xs ys → is_over n xs ≡ is_over n ys
same_over n [] ys s = absurd s
same_over n (x ∷ xs) [] s = absurd s
same_over n (x ∷ xs) (y ∷ ys) (e, inl end) =
    let a : is_false_end n x xs ≡ false = and_right (x.code == EOI) (goes_on n xs) end.1.0 in
    let b : is_false_end n y ys ≡ false = and_right (y.code == EOI) (goes_on n ys) end.1.1 in
    ap not (a ∙ sym b)
same_over n (x ∷ xs) (y ∷ ys) (e, inr s) = ap (λ (b : Bool). not ((x.code == EOI) && b)) (same_goes_on n xs ys s) ∙ ap (λ (m : ScanMarker). not (is_false_end n m ys)) e

same_meaning : (n size since k code : ℕ) (missing : Option ℕ) (a b : List ℕ) → SameToEnd n (markers_in 0 a) (markers_in 0 b) → MeansIn n size since k a code missing → MeansIn n size since k b code missing
same_meaning n size since k code missing a b s (inl x) = inl (subst (λ (l : ℕ). IsMeaning n k l code missing) (most_same n size since k (scan_markers n a) (scan_markers n b) (same_read n (markers_in 0 a) (markers_in 0 b) s)) x)
same_meaning n size since k code missing a b s (inr p) = inr (p.0, p.1, sym (same_over n (markers_in 0 a) (markers_in 0 b) s) ∙ p.2, p.3)

are_parts : (n size since k at fill : ℕ) (y z tail longer : List ℕ) (end : ScanEnd) (ps : List Part) → BothEnd n (markers_in 0 y) (markers_in 0 z) → tail ≡ marker fill EOI ++ y → longer ≡ marker fill EOI ++ z
    → ((i o : ℕ) → EndsResync n i o longer end) → AreParts n size since k at tail end ps → AreParts n size since k at longer end ps
are_parts n size since k at fill y z tail longer end [] both here there ended are = ended k at
are_parts n size since k at fill y z tail longer end (p ∷ ps) both here there ended are =
    let front = flat_map part_bytes (p ∷ ps) in
    let same = subst (λ (t : List ℕ). SameToEnd n (markers_in 0 (front ++ tail)) (markers_in 0 (front ++ t))) (sym there) (subst (λ (t : List ℕ). SameToEnd n (markers_in 0 (front ++ t)) (markers_in 0 (front ++ (marker fill EOI ++ z)))) (sym here) (to_end n fill y z both 0 front)) in
    (same_meaning n size since k p.code p.missing (front ++ tail) (front ++ longer) same are.0, are.1, are_parts n size (since_after since p.missing (length (part_bytes p))) (number_after k p.missing) (at + length (part_bytes p)) fill y z tail longer end ps both here there ended are.2)

-- the bytes after the parts end the scan
parts_end : (n size since k at : ℕ) (tail : List ℕ) (end : ScanEnd) (ps : List Part) → AreParts n size since k at tail end ps → (i : ℕ) × (o : ℕ) × EndsResync n i o tail end
parts_end n size since k at tail end [] are = (k, at, are)
parts_end n size since k at tail end (p ∷ ps) are = parts_end n size (since_after since p.missing (length (part_bytes p))) (number_after k p.missing) (at + length (part_bytes p)) tail end ps are.2

module _ (n at : ℕ) (bytes more : List ℕ) (r : Resync) (x : IsResync n at bytes r) (ended : r.end ≡ EndOfImage) (is_end : is_over n (markers_in 0 x.parts.tail) ≡ true) (still_end : is_over n (markers_in 0 (x.parts.tail ++ more)) ≡ true) where
  abbrev parts : List Part
  parts = x.parts.parts

  abbrev tail : List ℕ
  tail = x.parts.tail

  abbrev front : List ℕ
  front = x.raw ++ flat_map part_bytes parts

  here : x.after.end ≡ EndOfImage
  here = sym (ap (λ (s : Resync). s.end) x.is) ∙ ended

  eoi : HasMarker tail EOI
  eoi =
      let last = parts_end n (scan_bytes (scan_markers n bytes)) (length x.raw) 0 (at + length x.raw) tail x.after.end parts x.parts.are in
      (subst (EndsResync n last.0 last.1 tail) here last.2).0

  longer : tail ++ more ≡ marker eoi.0 EOI ++ (eoi.1 ++ more)
  longer = ap (λ (t : List ℕ). t ++ more) eoi.2 ∙ append_assoc (marker eoi.0 EOI) eoi.1 more

  -- the scan continues neither in the bytes after its EOI nor if more follow
  over : (rest file : List ℕ) → file ≡ marker eoi.0 EOI ++ rest → is_over n (markers_in 0 file) ≡ true → goes_on n (markers_in 0 rest) ≡ false
  over rest file spelled ended = not_true (goes_on n (markers_in 0 rest)) (sym (over_is n 0 eoi.0 rest) ∙ ap (λ (b : List ℕ). is_over n (markers_in 0 b)) (sym spelled) ∙ ended)
    where
      not_true : (b : Bool) → not b ≡ true → b ≡ false
      not_true true e = absurd cc
      not_true false e = refl

  both : BothEnd n (markers_in 0 eoi.1) (markers_in 0 (eoi.1 ++ more))
  both = (over eoi.1 tail eoi.2 is_end, over (eoi.1 ++ more) (tail ++ more) longer still_end)

  whole : bytes ≡ front ++ tail
  whole = x.spelled ∙ ap (λ (t : List ℕ). x.raw ++ t) x.parts.spelled ∙ sym (append_assoc x.raw (flat_map part_bytes parts) tail)

  -- the number of the scan's bytes is the same
  size : scan_bytes (scan_markers n bytes) ≡ scan_bytes (scan_markers n (bytes ++ more))
  size =
      let same = (agree n _ _ (same_read n _ _ (to_end n eoi.0 eoi.1 (eoi.1 ++ more) both 0 front))).size in
      let one : bytes ≡ front ++ (marker eoi.0 EOI ++ eoi.1) = whole ∙ ap (λ (t : List ℕ). front ++ t) eoi.2 in
      let other : bytes ++ more ≡ front ++ (marker eoi.0 EOI ++ (eoi.1 ++ more)) = ap (λ (t : List ℕ). t ++ more) whole ∙ append_assoc front tail more ∙ ap (λ (t : List ℕ). front ++ t) longer in
      ap (λ (b : List ℕ). scan_bytes (scan_markers n b)) one ∙ same ∙ ap (λ (b : List ℕ). scan_bytes (scan_markers n b)) (sym other)

  further : PartsFrom n (scan_bytes (scan_markers n (bytes ++ more))) (length x.raw) 0 (at + length x.raw) (x.rest ++ more) x.after
  further =
      let sized = subst (λ (s : ℕ). AreParts n s (length x.raw) 0 (at + length x.raw) tail x.after.end parts) size x.parts.are in
      let last : (i o : ℕ) → EndsResync n i o (tail ++ more) x.after.end = λ i o. subst (EndsResync n i o (tail ++ more)) (sym here) ((eoi.0, eoi.1 ++ more, longer), inr (inl (refl, still_end))) in
      record {
        parts = parts;
        tail = tail ++ more;
        are = are_parts n (scan_bytes (scan_markers n (bytes ++ more))) (length x.raw) 0 (at + length x.raw) eoi.0 eoi.1 (eoi.1 ++ more) tail (tail ++ more) x.after.end parts both eoi.2 longer last sized;
        spelled = ap (λ (t : List ℕ). t ++ more) x.parts.spelled ∙ append_assoc (flat_map part_bytes parts) tail more;
        raws = x.parts.raws;
        datas = x.parts.datas;
        breaks = x.parts.breaks;
      }

  pub bytes_after_end : IsResync n at (bytes ++ more) r
  bytes_after_end = record {
    some = x.some;
    raw = x.raw;
    first = x.first;
    rest = x.rest ++ more;
    after = x.after;
    is_raw = x.is_raw;
    spelled = ap (λ (t : List ℕ). t ++ more) x.spelled ∙ append_assoc x.raw x.rest more;
    parts = further;
    is = x.is;
  }

pub file_after_end : (file more : List ℕ) (h : HeadValue) (r : Resynced) → HeadOf file h → (made : IsResynced file h r) → r.ended ≡ EndOfImage → is_over (intervals_of h) (markers_in 0 made.is.parts.tail) ≡ true → is_over (intervals_of h) (markers_in 0 (made.is.parts.tail ++ more)) ≡ true → IsResynced (file ++ more) h r
file_after_end file more h r head made ended is_end still_end =
    let within = scan_within file [] h head in
    let scan : drop h.scan_at file ++ more ≡ drop h.scan_at (file ++ more) = sym (drop-append-le h.scan_at file more within) in
    let front : take h.scan_at file ≡ take h.scan_at (file ++ more) = sym (take-append-le h.scan_at file more within) in
    let same = bytes_after_end (intervals_of h) h.scan_at (drop h.scan_at file) more made.segments made.is (sym made.ended ∙ ended) is_end still_end in
    record {
      segments = made.segments;
      is = subst (λ (b : List ℕ). IsResync (intervals_of h) h.scan_at b made.segments) scan same;
      bytes = made.bytes ∙ ap (λ (b : List ℕ). b ++ coded_intervals made.segments.raws) front;
      breaks = made.breaks;
      ended = made.ended;
      head = made.head;
      scan = made.scan;
    }
