-- Bytes that spell data, compared with others that have the same beginning.
use Rattle.std.proofs.Common.{◌≡◌, ℕ, ◌≤◌, List, [], ◌∷◌, ◌++◌, length, map, take, drop, refl, sym, ap, subst, ◌∙◌, inl, inr, append_assoc, length-append, arith}
use Rattle.std.specs.List.{flat_map, AllByRecursion}
use Rattle.std.proofs.lemmas.Bool.{cases_lt}
use Rattle.std.proofs.lemmas.List.{append-nil, map-append, length-map, take-append-drop, take-take}
use Rattle.jr_cut.specs.Cut.{Spelling, IsSpelling, spelling, byte_spelled, IsRaw, IsStop}
use Rattle.jr_cut.specs.Cut.Spelling.{Plain, Stuffed}
use Rattle.jr_cut.proofs.CutLaw.{same_spelling, not_stop}

-- the fewer spellings of the same bytes begin the others
record Begins (ps qs : List Spelling) (s t : List ℕ) : Type 0 where
  pub others : List Spelling
  pub are : qs ≡ ps ++ others
  pub rest : s ≡ flat_map spelling others ++ t

begin : (ps qs : List Spelling) (s t : List ℕ) → AllByRecursion IsSpelling ps → AllByRecursion IsSpelling qs → length ps ≤ length qs → flat_map spelling ps ++ s ≡ flat_map spelling qs ++ t → Begins ps qs s t
begin [] qs s t hp hq le e = record { others = qs; are = refl; rest = e }
begin (p ∷ ps) [] s t hp hq le e = absurd (omega (arith, le))
begin (p ∷ ps) (q ∷ qs) s t hp hq le e =
    let first = same_spelling p q (flat_map spelling ps ++ s) (flat_map spelling qs ++ t) hp.0 hq.0 (sym (append_assoc (spelling p) (flat_map spelling ps) s) ∙ e ∙ append_assoc (spelling q) (flat_map spelling qs) t) in
    let b = begin ps qs s t hp.1 hq.1 (omega (arith, le)) first.1 in
    record { others = b.others; are = ap (λ (r : Spelling). r ∷ qs) (sym first.0) ∙ ap (λ (l : List Spelling). p ∷ l) b.are; rest = b.rest }

all_after : (ps qs : List Spelling) → AllByRecursion IsSpelling (ps ++ qs) → AllByRecursion IsSpelling qs
all_after [] qs h = h
all_after (p ∷ ps) qs h = all_after ps qs h.1

none_after : (others : List Spelling) (s t : List ℕ) → IsStop s → AllByRecursion IsSpelling others → s ≡ flat_map spelling others ++ t → others ≡ []
none_after [] s t stop each e = refl
none_after (p ∷ ps) s t stop each e = absurd (not_stop s (flat_map spelling ps ++ t) p stop each.0 (e ∙ append_assoc (spelling p) (flat_map spelling ps) t))

-- the data that is spelled further: none after a stop
pub record Further (r a q b s t : List ℕ) : Type 0 where
  pub raw : List ℕ
  pub added : List ℕ
  pub is : b ≡ a ++ added
  pub spelled : s ≡ raw ++ t
  pub raw_is : IsRaw raw added
  pub none : IsStop s → (added ≡ []) × (s ≡ t)

module _ (r a q b s t : List ℕ) (hr : IsRaw r a) (hq : IsRaw q b) (e : r ++ s ≡ q ++ t) where
  pub further : length a ≤ length b → Further r a q b s t
  further le =
      let long_r : length a ≡ length hr.parts = ap length hr.means ∙ length-map hr.parts byte_spelled in
      let long_q : length b ≡ length hq.parts = ap length hq.means ∙ length-map hq.parts byte_spelled in
      let parts : flat_map spelling hr.parts ++ s ≡ flat_map spelling hq.parts ++ t = ap (λ (x : List ℕ). x ++ s) (sym hr.spelled) ∙ e ∙ ap (λ (x : List ℕ). x ++ t) hq.spelled in
      let c = begin hr.parts hq.parts s t hr.each hq.each (omega (arith, le, long_r, long_q)) parts in
      let each = all_after hr.parts c.others (subst (AllByRecursion IsSpelling) c.are hq.each) in
      record {
        raw = flat_map spelling c.others;
        added = map byte_spelled c.others;
        is = hq.means ∙ ap (map byte_spelled) c.are ∙ map-append byte_spelled hr.parts c.others ∙ ap (λ (x : List ℕ). x ++ map byte_spelled c.others) (sym hr.means);
        spelled = c.rest;
        raw_is = record { parts = c.others; each = each; spelled = refl; means = refl };
        none = λ stop.
            let empty = none_after c.others s t stop each c.rest in
            (ap (map byte_spelled) empty, c.rest ∙ ap (λ (os : List Spelling). flat_map spelling os ++ t) empty);
      }

  -- up to a stop as much data as possible is spelled
  pub up_to_stop : IsStop s → length b ≤ length a
  up_to_stop stop = elim (cases_lt (length a) (length b)) [
    | inr g ↦ g
    | inl l ↦
        let f = further (omega (arith, l)) in
        absurd (omega (arith, l, ap length f.is, length-append a f.added, ap length (f.none stop).0))
  ]

-- data up to a stop begins with all that is spelled before
pub begins_stopped : (r a q b s t : List ℕ) → IsRaw r a → IsRaw q b → r ++ s ≡ q ++ t → IsStop t → Further r a q b s t
begins_stopped r a q b s t hr hq e stop = further r a q b s t hr hq e (up_to_stop q b r a t s hq hr (sym e) stop)

-- two ways up to a stop are one
pub one_stop : (r a q b s t : List ℕ) → IsRaw r a → IsRaw q b → r ++ s ≡ q ++ t → IsStop s → IsStop t → (b ≡ a) × (s ≡ t)
one_stop r a q b s t hr hq e hs ht =
    let f = begins_stopped r a q b s t hr hq e ht in
    let none = f.none hs in
    (f.is ∙ ap (λ (x : List ℕ). a ++ x) none.0 ∙ append-nil a, none.1)

-- ---- a segment's bytes, and the data that they spell

pub nothing_spelled : (raw found : List ℕ) → IsRaw raw found → length found ≡ 0 → raw ≡ []
nothing_spelled raw found is none = go is.parts (sym (length-map is.parts byte_spelled) ∙ ap length (sym is.means) ∙ none) is.spelled
  where
    go : (parts : List Spelling) → length parts ≡ 0 → raw ≡ flat_map spelling parts → raw ≡ []
    go [] n e = e
    go (p ∷ ps) n e = absurd (omega (arith, n))

parts_few : (ps : List Spelling) → length ps ≤ length (flat_map spelling ps)
parts_few [] = omega arith
parts_few (p ∷ ps) = omega (arith, parts_few ps, some p, length-append (spelling p) (flat_map spelling ps))
  where
    some : (p : Spelling) → 1 ≤ length (spelling p)
    some (Plain byte) = omega arith
    some (Stuffed more) = omega arith

-- the data have no more bytes than what spells them
pub found_few : (raw found : List ℕ) → IsRaw raw found → length found ≤ length raw
found_few raw found is = omega (arith, parts_few is.parts, ap length is.spelled, ap length is.means, length-map is.parts byte_spelled)

no_stop : IsStop []
no_stop = record { more = 0; rest = []; spelled = refl; stops = inl refl }

-- and spell nothing else
pub same_found : (raw bytes found : List ℕ) → IsRaw raw bytes → IsRaw raw found → bytes ≡ found
same_found raw bytes found is too = (one_stop raw found raw bytes [] [] too is refl no_stop no_stop).0

-- up to a stop all of them are read
pub all_read : (raw bytes found : List ℕ) (read : ℕ) → IsRaw raw bytes → IsRaw (take read raw) found → IsStop (drop read raw) → IsRaw raw found
all_read raw bytes found read is some stop =
    let same = one_stop (take read raw) found raw bytes (drop read raw) [] some is (take-append-drop read raw ∙ sym (append-nil raw)) stop no_stop in
    subst (IsRaw raw) same.0 is

-- some of the first bytes spell what they spell alone
pub spelled_first : (raw found : List ℕ) (end read : ℕ) → read ≤ end → IsRaw (take read (take end raw)) found → IsRaw (take read raw) found
spelled_first raw found end read few is = subst (λ (x : List ℕ). IsRaw x found) (take-take read end raw few) is

-- data up to a stop is at least as long as what any other bytes spell
pub some_found : (raw found front : List ℕ) (end read n : ℕ) → n ≤ end → IsRaw (take n raw) front → IsRaw (take read (take end raw)) found → IsStop (drop read (take end raw)) → length front ≤ length found
some_found raw found front end read n few is spelled stop =
    let first = take end raw in
    up_to_stop (take read first) found (take n first) front (drop read first) (drop n first) spelled (subst (λ (x : List ℕ). IsRaw x front) (sym (take-take n end raw few)) is) (take-append-drop read first ∙ sym (take-append-drop n first)) stop
