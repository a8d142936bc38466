-- Damaged intervals that are listed one after the other.
use Rattle.std.proofs.Common.{arith, refl, subst, sym, ap, ◌∙◌, ◌≡◌, ℕ, List, [], length, set, drop, max, min, ◌-◌, ◌+◌, ◌<◌, ◌≤◌, inl, inr}
use Rattle.std.specs.List.{All}
use Rattle.std.specs.Prelude.{Option, Some, None, IfSome}
use Rattle.std.proofs.lemmas.Bool.{cases_lt}
use Rattle.std.proofs.lemmas.List.{drop-drop, get_or_past, get_or-set_same, get_or-set_other}
use Rattle.std.proofs.lemmas.List.Elements.{All-drop}
use Rattle.jr_cut.specs.declared.file_segments.CodedSpan.{CodedSpan}
use Rattle.jr_cut.proofs.EachCut.{each_scan_has_a_cut}
use Rattle.jr_scan.specs.Mcus.{HasDecoding, HasNoDecoding}
use Rattle.jr_scan.specs.ScanValue.{ScanValue, interval_of, intervals_of, scan_of_segments}
use Rattle.jr_damage.specs.declared.map.DamagedInterval.{DamagedInterval}
use Rattle.jr_head.specs.HeadValue.{HeadValue}
use Rattle.jr_head.specs.Heads.{HeadOf}
use Rattle.jr_arrival.proofs.ScanIntervals.{count_is}
use Rattle.jr_damage.specs.Coded.{BeginsAt, IsNextAt, IsSegmentOf}
use Rattle.jr_damage.specs.Map.{AreBytesOf, IsDamageOf}
use Rattle.jri_memory.specs.declared.damages.Damage.{Damage}
use Rattle.jr_damage.specs.Verdicts.{IsFileScan}
use Rattle.jri_memory.specs.Damages.{AreDamages, IsListedAt, IsDamageEntry, IsPositionOf, damage_at, no_damage}

-- nothing is listed yet
pub damages_begin : (file : List ℕ) (s : ScanValue) (first : ℕ) (list : List Damage) → AreDamages file s first first 0 list
damages_begin file s first list = record {
  start = omega arith;
  each = λ k lt. absurd (omega (arith, lt));
  order = λ k lt. absurd (omega (arith, lt));
  all = λ i from before. absurd (omega (arith, from, before));
}

-- an interval that has a decoding is skipped
pub damages_none : (file : List ℕ) (s : ScanValue) (first i count : ℕ) (list : List Damage) → HasDecoding (interval_of s i) → AreDamages file s first i count list
    → AreDamages file s first (i + 1) count list
damages_none file s first i count list sound a = record {
  start = omega (arith, a.start);
  each = λ k lt. (let e = a.each k lt in record { interval = e.interval; span = e.span; reports = e.reports; is = e.is; segment = e.segment; from = e.from; before = omega (arith, e.before) });
  order = a.order;
  all = λ j from before none. elim (cases_lt j i) [
    | inl lt ↦ a.all j from lt none
    | inr le ↦ (let e : j ≡ i = omega (arith, le, before) in absurd (subst (λ (n : ℕ). HasNoDecoding (interval_of s n)) e none sound.0 sound.1))
  ];
}

module _ (file : List ℕ) (s : ScanValue) (span : CodedSpan) (first i count : ℕ) (list : List Damage) (damaged : DamagedInterval) (d : Damage) (space : count < length list)
    (is : IsDamageOf (interval_of s i) span damaged) (segment : IsSegmentOf file s i span) (reports : IsDamageEntry damaged d) (a : AreDamages file s first i count list) where
  at : d.interval ≡ i
  at = reports.interval ∙ is.number

  here : damage_at (set list count d) count ≡ d
  here = get_or-set_same list count d no_damage space

  other : (k : ℕ) → k < count → damage_at (set list count d) k ≡ damage_at list k
  other k lt = get_or-set_other list count k d no_damage (λ e. omega (arith, lt, e))

  -- a damaged interval is listed
  pub damages_one : AreDamages file s first (i + 1) (count + 1) (set list count d)
  damages_one = record {
    start = omega (arith, a.start);
    each = λ k lt. elim (cases_lt k count) [
      | inl before ↦ (
          let e = a.each k before in
          subst (IsListedAt file s first (i + 1)) (sym (other k before)) (record { interval = e.interval; span = e.span; reports = e.reports; is = e.is; segment = e.segment; from = e.from; before = omega (arith, e.before) }))
      | inr last ↦ (
          let e : k ≡ count = omega (arith, last, lt) in
          subst (λ (n : ℕ). IsListedAt file s first (i + 1) (damage_at (set list count d) n)) (sym e) (subst (IsListedAt file s first (i + 1)) (sym here) (record {
            interval = damaged;
            span = span;
            reports = reports;
            is = subst (λ (n : ℕ). IsDamageOf (interval_of s n) span damaged) (sym at) is;
            segment = subst (λ (n : ℕ). IsSegmentOf file s n span) (sym at) segment;
            from = omega (arith, at, a.start);
            before = omega (arith, at);
          })))
    ];
    order = λ k lt. elim (cases_lt (k + 1) count) [
      | inl before ↦ (
          let e = a.order k before in
          omega (arith, e, ap (λ (x : Damage). x.interval) (other k (omega (arith, before))), ap (λ (x : Damage). x.interval) (other (k + 1) before)))
      | inr last ↦ (
          let e : k + 1 ≡ count = omega (arith, last, lt) in
          let before = (a.each k (omega (arith, e))).before in
          let one = ap (λ (x : Damage). x.interval) (ap (λ (n : ℕ). damage_at (set list count d) n) e ∙ here) ∙ at in
          omega (arith, before, one, ap (λ (x : Damage). x.interval) (other k (omega (arith, e)))))
    ];
    all = λ j from before none. elim (cases_lt j i) [
      | inl lt ↦ (let found = a.all j from lt none in (found.0, omega (arith, found.1), ap (λ (x : Damage). x.interval) (other found.0 found.1) ∙ found.2))
      | inr le ↦ (let e : i ≡ j = omega (arith, le, before) in (count, omega arith, ap (λ (x : Damage). x.interval) here ∙ at ∙ e))
    ];
  }

-- two lists that are equal after an index are equal after each later one
pub drop_on : (old now new : List Damage) (a b : ℕ) → a ≤ b → drop a now ≡ drop a old → drop b new ≡ drop b now → drop b new ≡ drop b old
drop_on old now new a b le before same =
    let e : a + (b - a) ≡ b = omega (arith, le) in
    same ∙ ap (λ (n : ℕ). drop n now) (sym e) ∙ sym (drop-drop (b - a) a now) ∙ ap (drop (b - a)) before ∙ drop-drop (b - a) a old ∙ ap (λ (n : ℕ). drop n old) e

-- what is reported of an interval is reported of it by another span with the same bytes
pub damage_by : (s : ScanValue) (i : ℕ) (span other : CodedSpan) (found : Option DamagedInterval) → ((reported : Option CodedSpan) → AreBytesOf span reported → AreBytesOf other reported)
    → IfSome found (λ d. IsDamageOf (interval_of s i) span d) → IfSome found (λ d. IsDamageOf (interval_of s i) other d)
damage_by s i span other None same is = is
damage_by s i span other (Some d) same is = record {
  number = is.number;
  undecodable = is.undecodable;
  decodable = is.decodable;
  first = is.first;
  count = is.count;
  lines = is.lines;
  bytes = same d.bytes is.bytes;
}

-- ---- positions

-- the scan of a file with this header
pub record FileScan (file : List ℕ) (h : HeadValue) : Type 0 where
  pub scan : ScanValue
  pub head : scan.head ≡ h
  pub is : IsFileScan file scan
  pub count : length scan.intervals ≡ intervals_of scan.head
  pub top : IsPositionOf file scan 0 0

pub file_scan : (file : List ℕ) (h : HeadValue) → 0 < intervals_of h → All (λ b. b < 256) file → HeadOf file h → FileScan file h
file_scan file h some small head =
    let c = each_scan_has_a_cut (intervals_of h) h.scan_at (drop h.scan_at file) some (All-drop (λ b. b < 256) h.scan_at file small) in
    let s = scan_of_segments h c.datas c.end in
    let is : IsFileScan file s = record { head = head; cut = record { segments = c.datas; cut = c.is; intervals = refl } } in
    let begins : BeginsAt file s 0 h.scan_at = record { within = omega (arith, head.scan_at); segments = c.datas; empty = intervals_of h - length c.datas; cut = c.is; intervals = refl } in
    let at : h.scan_at ≡ min (max 0 h.scan_at) (length file) = omega (arith, head.scan_at) in
    record { scan = s; head = refl; is = is; count = count_is file s is.cut; top = inl (subst (BeginsAt file s 0) at begins) }

-- the position at which a list starts, if the given one is a position: of the last interval's end if its number is more
pub starts_at : (file : List ℕ) (s : ScanValue) (first at start : ℕ) → length s.intervals ≡ intervals_of s.head → start ≡ min first (intervals_of s.head)
    → IsNextAt file s first at → IsNextAt file s start at
starts_at file s first at start count e (inl b) =
    let same : first ≡ start = omega (arith, e, b.cut.few) in
    inl (subst (λ (k : ℕ). BeginsAt file s k at) same b)
starts_at file s first at start count e (inr h) = inr (record {
  last = h.last;
  none = λ j le. elim (cases_lt j (length s.intervals)) [
    | inl lt ↦ h.none j (omega (arith, lt, le, e, count))
    | inr past ↦ get_or_past s.intervals j [] past
  ];
})
