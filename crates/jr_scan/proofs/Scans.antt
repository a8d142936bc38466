-- A scan's intervals, their number and their MCUs.
use Rattle.std.proofs.Common.{◌≡◌, ℕ, zero, suc, ◌+◌, ◌-◌, ◌<◌, ◌≤◌, List, [], ◌∷◌, ◌++◌, get_or, length-append, length, map, drop, replicate, refl, sym, ap, subst, ◌∙◌, arith}
use Rattle.std.specs.List.{All}
use Rattle.std.proofs.lemmas.List.{length-map, length-replicate, drop-append-le, get_or-map, get_or_past}
use Rattle.jr_head.specs.HeadValue.{HeadValue}
use Rattle.jr_cut.specs.declared.scan_end.ScanEnd.{ScanEnd}
use Rattle.jr_cut.specs.Cut.{CodedSegment, IsCut}
use Rattle.jr_cut.specs.declared.span.Span.{Span}
use Rattle.jr_cut.specs.Spans.{segment_data, IsSpanOf}
use Rattle.jr_scan.specs.IntervalValue.{IntervalValue}
use Rattle.jr_scan.specs.ScanValue.{ScanValue, intervals_of, scan_of_segments, IsScanOf}
use Rattle.jr_scan.specs.PartialScan.{HasCome, partial_scan}
use Rattle.jr_cut.specs.PartialCut.{PartialCutValue, HasCut}
use Rattle.jr_cut.proofs.PartialSegments.{has_cut_is_cut}

pub cut_few : (n at : ℕ) (bytes : List ℕ) (datas : List (List ℕ)) (end : ScanEnd) → IsCut n at bytes datas end → length datas ≤ n
cut_few n at bytes datas end c = omega (arith, ap length c.means, length-map c.segments (λ (p : CodedSegment). p.bytes), c.few)

-- a scan is its segments
pub is_scan : (h : HeadValue) (file bytes : List ℕ) (segments : List (List ℕ)) (n at : ℕ) (end : ScanEnd) → n ≡ intervals_of h → at ≡ h.scan_at → bytes ≡ drop h.scan_at file
    → IsCut n at bytes segments end → IsScanOf file (scan_of_segments h segments end)
is_scan h file bytes segments n at end en ea eb c =
    let c1 = subst (λ (xs : List ℕ). IsCut n at xs segments end) eb c in
    let c2 = subst (λ (k : ℕ). IsCut n k (drop h.scan_at file) segments end) ea c1 in
    let c3 = subst (λ (k : ℕ). IsCut k h.scan_at (drop h.scan_at file) segments end) en c2 in
    record { segments = segments; cut = c3; intervals = refl }

-- the same, from the stored fields
pub kept_scan : (h h' : HeadValue) (unstuffed unstuffed' : List ℕ) (spans : List Span) (n : ℕ) (end : ScanEnd) → h' ≡ h → unstuffed' ≡ unstuffed → n ≡ intervals_of h
    → ◌≡◌ {A = ScanValue} (record { head = h'; intervals = map (segment_data unstuffed') spans ++ replicate (n - length spans) []; ended = end }) (scan_of_segments h (map (segment_data unstuffed) spans) end)
kept_scan h h' unstuffed unstuffed' spans n end eh eu en =
    let count : length (map (segment_data unstuffed) spans) ≡ length spans = length-map spans (segment_data unstuffed) in
    ap (λ (g : HeadValue). record { head = g; intervals = map (segment_data unstuffed') spans ++ replicate (n - length spans) []; ended = end }) eh
    ∙ ap (λ (x : List ℕ). record { head = h; intervals = map (segment_data x) spans ++ replicate (n - length spans) []; ended = end }) eu
    ∙ ap (λ (k : ℕ). record { head = h; intervals = map (segment_data unstuffed) spans ++ replicate (k - length spans) []; ended = end }) en
    ∙ ap (λ (k : ℕ). record { head = h; intervals = map (segment_data unstuffed) spans ++ replicate (intervals_of h - k) []; ended = end }) (sym count)

-- intervals that have no segment have no data
pub padded_at : (segments : List (List ℕ)) (n i : ℕ) → get_or (segments ++ replicate n []) i [] ≡ get_or segments i []
padded_at [] n i = none n i
  where
    none : (n i : ℕ) → get_or (replicate {A = List ℕ} n []) i [] ≡ get_or {A = List ℕ} [] i []
    none zero i = refl
    none (suc n) zero = refl
    none (suc n) (suc i) = none n i
padded_at (s ∷ ss) n zero = refl
padded_at (s ∷ ss) n (suc i) = padded_at ss n i

-- the cut bytes are the scan so far
pub has_come : (h : HeadValue) (c : PartialCutValue) (bytes : List ℕ) → c.intervals ≡ intervals_of h → h.scan_at ≤ length bytes → c.at + length c.rest ≤ length bytes → HasCut h.scan_at (drop h.scan_at bytes) c → HasCome (partial_scan h c) bytes
unfolding is_scan
has_come h c bytes en starts few cut = record {
  starts = starts;
  few = few;
  cut = cut;
  scan = is_scan h bytes (drop h.scan_at bytes) c.segments c.intervals h.scan_at c.ended en refl refl (has_cut_is_cut h.scan_at (drop h.scan_at bytes) c cut);
  segments = refl;
}

-- more bytes have come
pub come_more : (h : HeadValue) (old new : PartialCutValue) (bytes more : List ℕ) → new.intervals ≡ intervals_of h → new.at + length new.rest ≤ old.at + length old.rest + length more
    → ((start : ℕ) (xs : List ℕ) → HasCut start xs old → HasCut start (xs ++ more) new) → HasCome (partial_scan h old) bytes → HasCome (partial_scan h new) (bytes ++ more)
come_more h old new bytes more en few on come =
    let after : drop h.scan_at (bytes ++ more) ≡ drop h.scan_at bytes ++ more = drop-append-le h.scan_at bytes more come.starts in
    has_come h new (bytes ++ more) en (omega (arith, come.starts, length-append bytes more)) (omega (arith, come.few, few, length-append bytes more))
    (subst (λ (xs : List ℕ). HasCut h.scan_at xs new) (sym after) (on h.scan_at (drop h.scan_at bytes) come.cut))

-- an interval is its four parts
pub interval_is : (i : IntervalValue) (n m : ℕ) (b : List ℕ) (h : HeadValue) → i.number ≡ n → i.mcus ≡ m → i.bytes ≡ b → i.head ≡ h → i ≡ record { number = n; mcus = m; bytes = b; head = h }
interval_is i n m b h p q r s = rw (← p, ← q, ← r, ← s) refl

-- the number of intervals that the header says
pub padded_count : (segments : List (List ℕ)) (n : ℕ) → length segments ≤ n → length (segments ++ replicate {A = List ℕ} (n - length segments) []) ≡ n
padded_count segments n few = omega (arith, few, length-append segments (replicate (n - length segments) []), length-replicate {A = List ℕ} (n - length segments) [])

-- the span of an interval's data; those that have no segment have none
pub record HasSpan (bytes : List ℕ) (spans : List Span) (n i : ℕ) (span : Span) : Type 0 where
  pub within : IsSpanOf bytes span
  pub bytes_are : segment_data bytes span ≡ get_or (map (segment_data bytes) spans ++ replicate n []) i []

pub its_span : (bytes : List ℕ) (spans : List Span) (n i : ℕ) (span d : Span) → All (IsSpanOf bytes) spans → i < length spans → span ≡ get_or spans i d → HasSpan bytes spans n i span
its_span bytes spans n i span d all few is = record {
  within = subst (IsSpanOf bytes) (sym is) (all i d few);
  bytes_are = ap (segment_data bytes) is ∙ sym (get_or-map (segment_data bytes) spans i d [] few) ∙ sym (padded_at (map (segment_data bytes) spans) n i);
}

pub no_span : (bytes : List ℕ) (spans : List Span) (n i : ℕ) (span : Span) → length spans ≤ i → span ≡ record { start = 0; end = 0 } → HasSpan bytes spans n i span
no_span bytes spans n i span past is = record {
  within = subst (IsSpanOf bytes) (sym is) (omega arith, omega arith);
  bytes_are = ap (segment_data bytes) is ∙ sym (get_or_past (map (segment_data bytes) spans) i [] (omega (arith, past, length-map spans (segment_data bytes)))) ∙ sym (padded_at (map (segment_data bytes) spans) n i);
}
