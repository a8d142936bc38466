-- Intervals that are taken from copies, one more at a time, and the scan of the file of these intervals.
use Rattle.std.proofs.Common.{◌≡◌, ℕ, zero, suc, ◌+◌, ◌<◌, ◌≤◌, false, List, [], ◌∷◌, ◌++◌, length, take, get_or, Option, None, Some, refl, sym, ap, subst, ◌∙◌, inl, inr, length-append, arith}
use Rattle.std.specs.List.{All, AllZip, Contains, slice_get}
use Rattle.std.proofs.lemmas.Bool.{cases_lt}
use Rattle.std.proofs.lemmas.List.{append-nil, get_or_default, length-map}
use Rattle.std.proofs.lemmas.List.Elements.{All-contains}
use Rattle.std.proofs.lemmas.Option.{get_or_from_slice_get, slice_get_within}
use Rattle.std.proofs.Math.ListN.{get_or-append, get_or-map}
use Rattle.std.proofs.Math.Seq.{get_or-append_seam}
use Rattle.jr_head.proofs.HeadStays.{header_stays}
use Rattle.jr_base.specs.declared.limits.TheConstants.{MAX_FILE_BYTES}
use Rattle.jr_cut.specs.declared.scan_end.ScanEnd.TheVariants.{EndOfImage}
use Rattle.jr_cut.specs.Cut.{IsRaw}
use Rattle.jr_damage.specs.Verdicts.{IsFileScan}
use Rattle.jr_head.specs.HeadValue.{HeadValue}
use Rattle.jr_scan.specs.IntervalValue.{IntervalValue}
use Rattle.jr_scan.specs.Mcus.{HasDecoding, HasNoDecoding}
use Rattle.jr_scan.specs.ScanValue.{ScanValue, interval_of, intervals_of, mcus_in, scan_of_segments}
use Rattle.jr_mend.specs.declared.choice.Choice.{Choice}
use Rattle.jr_mend.specs.Choice.{IsBest, IsChoiceOf}
use Rattle.jr_mend.specs.Copies.{CopyValue, versions_of}
use Rattle.jr_mend.specs.Mended.{AreTaken, HasChosen, IsMended, IsTaken}
use Rattle.jr_mend.specs.Splice.{coded_intervals, joined_intervals, marker_before, spliced}
use Rattle.jr_mend.proofs.Splices.{none_missing, scan_is, written_more as interval_written}

abbrev pub version_of : ℕ → CopyValue → IntervalValue
version_of i c = interval_of c.scan i

at_last : {X : Type 0} (xs : List X) (x d : X) (i : ℕ) → i ≡ length xs → get_or (xs ++ x ∷ []) i d ≡ x
at_last xs x d i e = ap (λ (n : ℕ). get_or (xs ++ x ∷ []) n d) e ∙ get_or-append_seam xs x [] d

-- one more interval is taken
pub taken_more : (copies : List CopyValue) (choices : List Choice) (raws : List (List ℕ)) (c : Choice) (raw : List ℕ) → AreTaken copies choices raws → IsTaken copies (length raws) c raw → AreTaken copies (choices ++ c ∷ []) (raws ++ raw ∷ [])
taken_more copies choices raws c raw t is = record {
  count = omega (arith, t.count, length-append choices (c ∷ []), length-append raws (raw ∷ []));
  each = λ i d lt. elim (cases_lt i (length raws)) [
    | inl h ↦
        let at_choice = get_or-append choices (c ∷ []) d i (omega (arith, h, t.count)) in
        let at_raw = get_or-append raws (raw ∷ []) [] i h in
        subst (λ (x : Choice). IsTaken copies i x (get_or (raws ++ raw ∷ []) i [])) (sym at_choice)
        (subst (λ (x : List ℕ). IsTaken copies i (get_or choices i d) x) (sym at_raw) (t.each i d h))
    | inr h ↦
        let last : i ≡ length raws = omega (arith, h, lt, length-append raws (raw ∷ [])) in
        let at_choice = at_last choices c d i (omega (arith, last, t.count)) in
        let at_raw = at_last raws raw [] i last in
        subst (λ (x : Choice). IsTaken copies i x (get_or (raws ++ raw ∷ []) i [])) (sym at_choice)
        (subst (λ (x : List ℕ). IsTaken copies i c x) (sym at_raw) (subst (λ (k : ℕ). IsTaken copies k c raw) (sym last) is))
  ];
}

-- what is written after bytes: the first n intervals, with the markers between them
pub record AreWritten (copies : List CopyValue) (choices : List Choice) (n : ℕ) (before bytes : List ℕ) : Type 0 where
  pub raws : List (List ℕ)
  pub taken : AreTaken copies choices raws
  pub count : length raws ≡ n
  pub written : bytes ≡ before ++ joined_intervals 0 raws

pub none_written : (copies : List CopyValue) (bytes : List ℕ) → AreWritten copies [] 0 bytes bytes
none_written copies bytes = record { raws = []; taken = record { count = refl; each = λ i c lt. absurd (omega (arith, lt)) }; count = refl; written = sym (append-nil bytes) }

pub written_more : (copies : List CopyValue) (choices : List Choice) (n : ℕ) (before old new raw : List ℕ) (c : Choice) → AreWritten copies choices n before old → IsTaken copies n c raw → new ≡ old ++ (marker_before n ++ raw) → AreWritten copies (choices ++ c ∷ []) (n + 1) before new
written_more copies choices n before old new raw c w is more =
    record {
      raws = w.raws ++ raw ∷ [];
      taken = taken_more copies choices w.raws c raw w.taken (subst (λ (k : ℕ). IsTaken copies k c raw) (sym w.count) is);
      count = omega (arith, w.count, length-append w.raws (raw ∷ []));
      written = interval_written n old new raw before w.raws more w.count w.written;
    }

abbrev interval_with : ℕ → HeadValue → List ℕ → IntervalValue
interval_with i h bytes = record { number = i; mcus = mcus_in h i; bytes = bytes; head = h }

-- two scans with one header have one interval if they have its data
pub same_interval : (s t : ScanValue) (i : ℕ) → s.head ≡ t.head → get_or s.intervals i [] ≡ get_or t.intervals i [] → interval_of s i ≡ interval_of t i
same_interval s t i head bytes = ap (λ (h : HeadValue). interval_with i h (get_or s.intervals i [])) head ∙ ap (interval_with i t.head) bytes

-- lists of bytes that are spelled, with a property of each by its index
record Spelled (Has : ℕ → List ℕ → Type 0) (raws : List (List ℕ)) : Type 0 where
  datas : List (List ℕ)
  are : AllZip IsRaw raws datas
  each : (i : ℕ) → i < length raws → Has i (get_or datas i [])

first_and_rest : (Has : ℕ → List ℕ → Type 0) (d : List ℕ) (ds : List (List ℕ)) (n : ℕ) → Has 0 d → ((i : ℕ) → i < n → Has (suc i) (get_or ds i [])) → (i : ℕ) → i < suc n → Has i (get_or (d ∷ ds) i [])
first_and_rest Has d ds n first rest zero lt = first
first_and_rest Has d ds n first rest (suc i) lt = rest i (omega (arith, lt))

spelled : (Has : ℕ → List ℕ → Type 0) (raws : List (List ℕ)) → ((i : ℕ) → i < length raws → (d : List ℕ) × IsRaw (get_or raws i []) d × Has i d) → Spelled Has raws
spelled Has [] each = record { datas = []; are = tt; each = λ i lt. absurd (omega (arith, lt)) }
spelled Has (r ∷ rs) each =
    let first = each 0 (omega arith) in
    let rest = spelled (λ (i : ℕ). Has (suc i)) rs (λ i lt. each (suc i) (omega (arith, lt))) in
    record { datas = first.0 ∷ rest.datas; are = (first.1, rest.are); each = first_and_rest Has first.0 rest.datas (length rs) first.2 rest.each }

abbrev pub any_choice : Choice
any_choice = record { copy = 0; front = None; differs = false }

-- the scan of the mended file
module _ (copies : List CopyValue) (choices : List Choice) (file : List ℕ) (m : IsMended copies choices file) (alike : All (λ (c : CopyValue). c.scan.head ≡ (get_or copies 0 c).scan.head) copies) (is_scan : IsFileScan m.first.file m.first.scan) (small : length file ≤ MAX_FILE_BYTES) where
  abbrev h : HeadValue
  h = m.first.scan.head

  first_is : (c : CopyValue) → h ≡ (get_or copies 0 c).scan.head
  first_is c = ap (λ (d : CopyValue). d.scan.head) (sym (get_or_from_slice_get copies 0 m.first c m.is_first))

  head_is : (k : ℕ) (c : CopyValue) → slice_get copies k ≡ Some c → c.scan.head ≡ h
  head_is k c is =
      let there : get_or copies k c ≡ c = get_or_from_slice_get copies k c c is in
      ap (λ (d : CopyValue). d.scan.head) (sym there) ∙ alike k c (slice_get_within copies k c is) ∙ sym (first_is (get_or copies k c))

  -- these data are chosen for interval i
  abbrev IsData : ℕ → List ℕ → Type 0
  IsData i bytes = (c : Choice) → IsChoiceOf (versions_of copies i) (interval_with i h bytes) (get_or choices i c)

  data_of : (i : ℕ) → i < length m.raws → (bytes : List ℕ) × IsRaw (get_or m.raws i []) bytes × IsData i bytes
  data_of i lt =
      let t = m.taken.each i any_choice lt in
      let bytes = get_or t.copy.scan.intervals i [] in
      let is = subst (λ (g : HeadValue). IsChoiceOf (versions_of copies i) (interval_with i g bytes) (get_or choices i any_choice)) (head_is (get_or choices i any_choice).copy t.copy t.is) t.choice in (
        bytes,
        subst (λ (l : List ℕ). IsRaw l bytes) (sym t.are) t.segment.spelled.raw,
        λ c. subst (IsChoiceOf (versions_of copies i) (interval_with i h bytes)) (get_or_default choices i any_choice c (omega (arith, lt, m.taken.count))) is,
      )

  all_data : Spelled IsData m.raws
  all_data = spelled IsData m.raws data_of

  abbrev t : ScanValue
  t = scan_of_segments h all_data.datas EndOfImage

  few : length (spliced m.first.file h m.raws) ≤ MAX_FILE_BYTES
  few = subst (λ (l : List ℕ). length l ≤ MAX_FILE_BYTES) m.written small

  rest : 0 < intervals_of h → IsFileScan (spliced m.first.file h m.raws) t
  rest has = record {
    head = header_stays m.first.file (coded_intervals m.raws) h is_scan.head few;
    cut = scan_is m.first.file h m.raws all_data.datas is_scan.head all_data.are (omega (arith, has, m.all)) (omega (arith, m.all));
  }

  chosen_is : (i : ℕ) (c : Choice) → i < length choices → IsChoiceOf (versions_of copies i) (interval_of t i) (get_or choices i c)
  chosen_is i c lt =
      let bytes : get_or t.intervals i [] ≡ get_or all_data.datas i [] = ap (λ (l : List (List ℕ)). get_or l i []) (none_missing h m.raws all_data.datas all_data.are m.all) in
      subst (λ (l : List ℕ). IsChoiceOf (versions_of copies i) (interval_with i h l) (get_or choices i c)) (sym bytes) (all_data.each i (omega (arith, lt, m.taken.count)) c)

  pub has_chosen : 0 < intervals_of h → HasChosen copies choices file
  has_chosen has = record {
    scan = t;
    is = subst (λ (l : List ℕ). IsFileScan l t) (sym m.written) (rest has);
    ended = refl;
    head = first_is;
    all = omega (arith, m.all, m.taken.count);
    chosen = chosen_is;
  }

-- the best version has a decoding if one has
best_sound : (vs : List IntervalValue) (n : ℕ) (chosen v : IntervalValue) (front : Option ℕ) → IsBest vs n chosen front → Contains vs v → HasDecoding v → HasDecoding chosen
best_sound vs n chosen v None best has sound = best.1
best_sound vs n chosen v (Some m) best has sound = absurd (All-contains HasNoDecoding vs v best.0 has sound.0 sound.1)

pub sound_chosen : (vs : List IntervalValue) (chosen v : IntervalValue) (c : Choice) → IsChoiceOf vs chosen c → Contains vs v → HasDecoding v → HasDecoding chosen
sound_chosen vs chosen v c is has sound = best_sound vs c.copy chosen v c.front is.best has sound

pub has_version : (copies : List CopyValue) (i : ℕ) (c : CopyValue) → Contains copies c → Contains (versions_of copies i) (version_of i c)
has_version copies i c (k, lt, is) =
    (k, omega (arith, lt, length-map copies (version_of i)), get_or-map (version_of i) copies k c ∙ ap (version_of i) is)

-- what is written after the first copy's header, and then ended, is the mended file
abbrev pub mended_whole : (copies : List CopyValue) (choices : List Choice) (n : ℕ) (first : CopyValue) (h : HeadValue) (source start bytes file : List ℕ) → slice_get copies 0 ≡ Some first → h ≡ first.scan.head → source ≡ first.file → n ≡ intervals_of h → start ≡ take h.scan_at source
    → (raws : List (List ℕ)) × AreTaken copies choices raws × (length raws ≡ n) × (bytes ≡ start ++ joined_intervals 0 raws)
    → ((front : List ℕ) (raws : List (List ℕ)) → bytes ≡ front ++ joined_intervals 0 raws → file ≡ front ++ coded_intervals raws) → IsMended copies choices file
mended_whole copies choices n first h source start bytes file is_first head is count begins w ends = record {
  first = first;
  is_first = is_first;
  raws = w.0;
  taken = w.1;
  all = w.2 ∙ count ∙ ap intervals_of head;
  written = ends start w.0 w.3 ∙ ap (λ (x : List ℕ). x ++ coded_intervals w.0) begins ∙ ap (λ (g : HeadValue). take g.scan_at source ++ coded_intervals w.0) head ∙ ap (λ (l : List ℕ). take first.scan.head.scan_at l ++ coded_intervals w.0) is;
}
