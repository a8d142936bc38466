-- The choice among some versions of an interval and one more.
use Rattle.std.proofs.Common.{◌≡◌, ◌≢◌, ℕ, zero, suc, ◌+◌, ◌<◌, ◌≤◌, inl, inr, Bool, true, false, Option, Some, None, OnSome, IfSome, IfNone, List, [], ◌∷◌, ◌++◌, length, map, take, slice_range, get_or, refl, sym, ap, subst, ◌∙◌, length-append, arith}
use Rattle.std.proofs.lemmas.List.{get_or-take, length-map, length-take, length-take-le, map_more, take-append-le}
use Rattle.std.proofs.lemmas.Option.{get_or_from_slice_get, slice_get_read, slice_get_within}
use Rattle.std.proofs.Math.ListN.{get_or-map}
use Rattle.std.proofs.Math.Seq.{get_or-append_seam, take-append_seam, take-length}
use Rattle.std.specs.List.{All, Contains, slice_get}
use Rattle.std.proofs.lemmas.List.Elements.{All-contains, All-nil, All-push, All-weaker, Contains-append_left, Contains-push, Contains-push_cases}
use Rattle.jr_cut.proofs.Spellings.{same_found}
use Rattle.jr_cut.specs.Cut.{IsRaw}
use Rattle.jr_cut.specs.declared.file_segments.CodedSpan.{CodedSpan}
use Rattle.jr_damage.specs.Coded.{IsSegmentOf}
use Rattle.jr_scan.specs.IntervalValue.{IntervalValue}
use Rattle.jr_scan.specs.Mcus.{HasDecoding, HasNoDecoding, HasLongestFront}
use Rattle.jr_mend.specs.declared.choice.Choice.{Choice}
use Rattle.jr_mend.specs.Choice.{Differ, IsBest, IsChoiceOf, ReportsDiffer}
use Rattle.jr_mend.specs.Copies.{CopyValue, versions_of}
use Rattle.jr_mend.proofs.ScanOfCopies.{same_interval, version_of}

abbrev HasFewer : ℕ → IntervalValue → Type 0
HasFewer mcus v = (k : ℕ) → HasLongestFront v k → k < mcus

abbrev HasAtMost : ℕ → IntervalValue → Type 0
HasAtMost mcus v = (k : ℕ) → HasLongestFront v k → k ≤ mcus

-- a version keeps its number among more versions
get_more : (vs : List IntervalValue) (next v : IntervalValue) (n : ℕ) → slice_get vs n ≡ Some v → slice_get (vs ++ next ∷ []) n ≡ Some v
get_more [] next v n is = absurd cc
get_more (x ∷ vs) next v zero is = is
get_more (x ∷ vs) next v (suc n) is = get_more vs next v n is

get_last : (vs : List IntervalValue) (next : IntervalValue) (n : ℕ) → length vs ≡ n → slice_get (vs ++ next ∷ []) n ≡ Some next
get_last vs next n long = slice_get_read (vs ++ next ∷ []) (n + 1) n next (omega (arith, long, length-append vs (next ∷ []))) (omega arith) (sym (ap (λ (k : ℕ). get_or (vs ++ next ∷ []) k next) (sym long) ∙ get_or-append_seam vs next [] next))

-- all others are before the last
take_last : (vs : List IntervalValue) (next : IntervalValue) (n : ℕ) → length vs ≡ n → take n (vs ++ next ∷ []) ≡ vs
take_last vs next n long = ap (λ (k : ℕ). take k (vs ++ next ∷ [])) (sym long) ∙ take-append_seam vs (next ∷ [])

has_chosen : (vs : List IntervalValue) (chosen : IntervalValue) (n : ℕ) → slice_get vs n ≡ Some chosen → Contains vs chosen
has_chosen vs chosen n is = (n, slice_get_within vs n chosen is, get_or_from_slice_get vs n chosen chosen is)

-- two of them that differ still differ
pub still_differ : (vs : List IntervalValue) (next : IntervalValue) → Differ vs → Differ (vs ++ next ∷ [])
still_differ vs next d = record {
  one = d.one;
  other = d.other;
  has_one = Contains-append_left vs (next ∷ []) d.one d.has_one;
  has_other = Contains-append_left vs (next ∷ []) d.other d.has_other;
  one_sound = d.one_sound;
  other_sound = d.other_sound;
  are = d.are;
}

sound_is : (vs : List IntervalValue) (next v : IntervalValue) → HasNoDecoding next → HasDecoding v → Contains (vs ++ next ∷ []) v → Contains vs v
sound_is vs next v none sound has = elim (Contains-push_cases vs next v has) [
  | inl h ↦ h
  | inr e ↦ absurd (subst HasNoDecoding e none sound.0 sound.1)
]

-- a damaged version does not matter
pub differ_before : (vs : List IntervalValue) (next : IntervalValue) → HasNoDecoding next → Differ (vs ++ next ∷ []) → Differ vs
differ_before vs next none d = record {
  one = d.one;
  other = d.other;
  has_one = sound_is vs next d.one none d.one_sound d.has_one;
  has_other = sound_is vs next d.other none d.other_sound d.has_other;
  one_sound = d.one_sound;
  other_sound = d.other_sound;
  are = d.are;
}

-- damaged versions do not differ
pub none_differ : (vs : List IntervalValue) → All HasNoDecoding vs → Differ vs → ⊥
none_differ vs none d = All-contains HasNoDecoding vs d.one none d.has_one d.one_sound.0 d.one_sound.1

only_is : (vs : List IntervalValue) (next v : IntervalValue) → All HasNoDecoding vs → HasDecoding v → Contains (vs ++ next ∷ []) v → next ≡ v
only_is vs next v none sound has = elim (Contains-push_cases vs next v has) [
  | inl h ↦ absurd (All-contains HasNoDecoding vs v none h sound.0 sound.1)
  | inr e ↦ e
]

-- the only sound one does not differ from itself
pub one_differs : (vs : List IntervalValue) (next : IntervalValue) → All HasNoDecoding vs → Differ (vs ++ next ∷ []) → ⊥
one_differs vs next none d =
    let one = only_is vs next d.one none d.one_sound d.has_one in
    let other = only_is vs next d.other none d.other_sound d.has_other in
    d.are (ap (λ (v : IntervalValue). v.bytes) (sym one ∙ other))

-- one with the data of another sound one adds no difference
module _ (vs : List IntervalValue) (chosen next : IntervalValue) (has : Contains vs chosen) (sound : HasDecoding chosen) (same : chosen.bytes ≡ next.bytes) where
  with_chosen : (v : IntervalValue) → Contains vs v → HasDecoding v → v.bytes ≢ next.bytes → Differ vs
  with_chosen v has_v sound_v other = record {
    one = v;
    other = chosen;
    has_one = has_v;
    has_other = has;
    one_sound = sound_v;
    other_sound = sound;
    are = λ e. other (e ∙ same);
  }

  pub same_differ : Differ (vs ++ next ∷ []) → Differ vs
  same_differ d = elim (Contains-push_cases vs next d.one d.has_one) [
    | inl h ↦ elim (Contains-push_cases vs next d.other d.has_other) [
      | inl k ↦ record { one = d.one; other = d.other; has_one = h; has_other = k; one_sound = d.one_sound; other_sound = d.other_sound; are = d.are }
      | inr f ↦ with_chosen d.one h d.one_sound (λ e. d.are (e ∙ ap (λ (v : IntervalValue). v.bytes) f))
    ]
    | inr e ↦ elim (Contains-push_cases vs next d.other d.has_other) [
      | inl k ↦ with_chosen d.other k d.other_sound (λ g. d.are (sym (ap (λ (v : IntervalValue). v.bytes) e) ∙ sym g))
      | inr f ↦ absurd (d.are (ap (λ (v : IntervalValue). v.bytes) (sym e ∙ f)))
    ]
  ]

-- no version has two longest prefixes of different length
at_most : (v : IntervalValue) (mcus : ℕ) → HasLongestFront v mcus → HasAtMost mcus v
at_most v mcus has = λ n h. has.1.longest n h.0 h.1.front

-- the chosen version among those of the first k copies is that of the copy of its number
module _ (copies : List CopyValue) (i k n : ℕ) (v : IntervalValue) (s : slice_get (versions_of (take k copies) i) n ≡ Some v) where
  below : n < length (take k copies)
  below =
      let l = slice_get_within (versions_of (take k copies) i) n v s in
      omega (arith, l, length-map (take k copies) (version_of i))

  pub below_first : n < k
  below_first = omega (arith, below, length-take k copies)

  pub below_all : n < length copies
  below_all = omega (arith, below, length-take k copies)

  pub chosen_is : (c : CopyValue) → c ≡ get_or copies n c → version_of i c ≡ v
  chosen_is c is =
      let f = version_of i in
      let first = take k copies in
      ap f is ∙ ap f (sym (get_or-take k copies n c below_first)) ∙ sym (get_or-map f first n c) ∙ get_or_from_slice_get (map f first) n v (f c) s

-- the versions after one more copy
pub versions_more : (copies : List CopyValue) (i k : ℕ) (c : CopyValue) → k < length copies → c ≡ get_or copies k c → versions_of (take (k + 1) copies) i ≡ versions_of (take k copies) i ++ version_of i c ∷ []
versions_more copies i k c lt is = map_more (version_of i) copies k c lt ∙ ap (λ (d : CopyValue). versions_of (take k copies) i ++ version_of i d ∷ []) (sym is)

pub versions_all : (copies : List CopyValue) (i : ℕ) → versions_of (take (length copies) copies) i ≡ versions_of copies i
versions_all copies i = ap (λ (l : List CopyValue). versions_of l i) (take-length copies)

-- a version that adds no difference leaves unchanged what is reported of them
reports_more : (vs : List IntervalValue) (next : IntervalValue) (stated : Bool) → ReportsDiffer vs stated → (Differ (vs ++ next ∷ []) → Differ vs) → ReportsDiffer (vs ++ next ∷ []) stated
reports_more vs next true t back = still_differ vs next t
reports_more vs next false t back = λ d. t (back d)

-- the choice among some versions and one more
module _ (vs : List IntervalValue) (chosen next : IntervalValue) (b : Choice) (is : IsChoiceOf vs chosen b) where
  abbrev all : List IntervalValue
  all = vs ++ next ∷ []

  before_is : take b.copy all ≡ take b.copy vs
  before_is =
      let within = slice_get_within vs b.copy chosen is.is in
      take-append-le b.copy vs (next ∷ []) (omega (arith, within))

  -- if the chosen one is sound it stays
  module _ (sound : b.front ≡ None) where
    its_best : All HasNoDecoding (take b.copy vs) × HasDecoding chosen
    its_best = subst (IsBest vs b.copy chosen) sound is.best

    best_more : IsBest all b.copy chosen None
    best_more = (subst (All HasNoDecoding) (sym before_is) its_best.0, its_best.1)

    still_best : IsBest all b.copy chosen b.front
    still_best = subst (IsBest all b.copy chosen) (sym sound) best_more

    pub stays_sound : HasNoDecoding next → IsChoiceOf all chosen b
    stays_sound none = record { is = get_more vs next chosen b.copy is.is; best = still_best; differs = reports_more vs next b.differs is.differs (differ_before vs next none) }

    pub stays_same : chosen.bytes ≡ next.bytes → IsChoiceOf all chosen b
    stays_same same = record {
      is = get_more vs next chosen b.copy is.is;
      best = still_best;
      differs = reports_more vs next b.differs is.differs (same_differ vs chosen next (has_chosen vs chosen b.copy is.is) its_best.1 same);
    }

    pub stays_other : HasDecoding next → chosen.bytes ≢ next.bytes → IsChoiceOf all chosen (record { copy = b.copy; front = None; differs = true })
    stays_other sound_next other = record {
      is = get_more vs next chosen b.copy is.is;
      best = best_more;
      differs = record {
        one = chosen;
        other = next;
        has_one = Contains-append_left vs (next ∷ []) chosen (has_chosen vs chosen b.copy is.is);
        has_other = Contains-push vs next;
        one_sound = its_best.1;
        other_sound = sound_next;
        are = other;
      };
    }

  -- if it is damaged all of them are
  module _ (m : ℕ) (damaged : b.front ≡ Some m) where
    longest : IsBest vs b.copy chosen (Some m)
    longest = subst (IsBest vs b.copy chosen) damaged is.best

    pub first_sound : (n : ℕ) → length vs ≡ n → HasDecoding next → IsChoiceOf all next (record { copy = n; front = None; differs = false })
    first_sound n long sound = record {
      is = get_last vs next n long;
      best = (subst (All HasNoDecoding) (sym (take_last vs next n long)) longest.0, sound);
      differs = one_differs vs next longest.0;
    }

    module _ (k : ℕ) (none : HasNoDecoding next) (has : HasLongestFront next k) where
      none_sound : All HasNoDecoding all
      none_sound = All-push HasNoDecoding vs next longest.0 none

      pub longer_front : (n : ℕ) → length vs ≡ n → m < k → IsChoiceOf all next (record { copy = n; front = Some k; differs = false })
      longer_front n long more =
          let fewer = All-weaker (HasAtMost m) (HasFewer k) (λ v most. λ j h. omega (arith, most j h, more)) vs longest.3 in
          let at_most_k = All-weaker (HasFewer k) (HasAtMost k) (λ v few. λ j h. omega (arith, few j h)) vs fewer in
          record {
            is = get_last vs next n long;
            best = (none_sound, has, subst (All (HasFewer k)) (sym (take_last vs next n long)) fewer, All-push (HasAtMost k) vs next at_most_k (at_most next k has));
            differs = none_differ all none_sound;
          }

      next_at_most : k ≤ m → HasAtMost m next
      next_at_most few = λ n h. omega (arith, at_most next k has n h, few)

      pub stays_longest : k ≤ m → IsChoiceOf all chosen b
      stays_longest few = record {
        is = get_more vs next chosen b.copy is.is;
        best = subst (IsBest all b.copy chosen) (sym damaged) (none_sound, longest.1, subst (All (HasFewer m)) (sym before_is) longest.2, All-push (HasAtMost m) vs next longest.3 (next_at_most few));
        differs = reports_more vs next b.differs is.differs (differ_before vs next none);
      }

  -- the chosen one again
  stays_itself_by : (front : Option ℕ) → b.front ≡ front → chosen ≡ next → IsChoiceOf all chosen b
  stays_itself_by None sound same = stays_same sound (ap (λ (v : IntervalValue). v.bytes) same)
  stays_itself_by (Some m) damaged same =
      let none = All-contains HasNoDecoding vs chosen (longest m damaged).0 (has_chosen vs chosen b.copy is.is) in
      let has = (longest m damaged).1 in
      stays_longest m damaged m (subst HasNoDecoding same none) (subst (λ (v : IntervalValue). HasLongestFront v m) same has) (omega arith)

  pub stays_itself : chosen ≡ next → IsChoiceOf all chosen b
  stays_itself same = stays_itself_by b.front refl same

-- copies with one header and equal bytes have one version
pub same_version : (one other : CopyValue) (i : ℕ) (its span : CodedSpan) → slice_range one.file its.start its.end ≡ slice_range other.file span.start span.end → one.scan.head ≡ other.scan.head
    → IsSegmentOf one.file one.scan i its → IsSegmentOf other.file other.scan i span → version_of i one ≡ version_of i other
same_version one other i its span raw head a b =
    let is = subst (λ (l : List ℕ). IsRaw l (get_or one.scan.intervals i [])) raw a.spelled.raw in
    same_interval one.scan other.scan i head (same_found (slice_range other.file span.start span.end) (get_or one.scan.intervals i []) (get_or other.scan.intervals i []) is b.spelled.raw)

-- the choice among one
pub one_choice : (v : IntervalValue) (front : Option ℕ) → IfNone front (HasDecoding v) → OnSome front (HasNoDecoding v) → IfSome front (λ m. HasLongestFront v m) → IsChoiceOf (v ∷ []) v (record { copy = 0; front = front; differs = false })
one_choice v None sound damaged front = record { is = refl; best = (All-nil HasNoDecoding, sound); differs = one_differs [] v (All-nil HasNoDecoding) }
one_choice v (Some m) sound damaged front =
    let none = All-push HasNoDecoding [] v (All-nil HasNoDecoding) damaged in
    record { is = refl; best = (none, front, All-nil (HasFewer m), All-push (HasAtMost m) [] v (All-nil (HasAtMost m)) (at_most v m front)); differs = none_differ (v ∷ []) none }

pub versions_long : (copies : List CopyValue) (i k : ℕ) → k < length copies → length (versions_of (take k copies) i) ≡ k
versions_long copies i k lt = length-map (take k copies) (version_of i) ∙ length-take-le k copies (omega (arith, lt))

pub chosen_in : (copies : List CopyValue) (i n : ℕ) (v : IntervalValue) (c : CopyValue) → slice_get (versions_of copies i) n ≡ Some v → c ≡ get_or copies n c → version_of i c ≡ v
chosen_in copies i n v c s is = chosen_is copies i (length copies) n v (subst (λ (l : List IntervalValue). slice_get l n ≡ Some v) (sym (versions_all copies i)) s) c is
