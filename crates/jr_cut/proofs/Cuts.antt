-- Coded segments: how they are read, and that there is one way.
use Rattle.std.proofs.Common.{◌≡◌, ◌≢◌, ℕ, zero, suc, ◌+◌, ◌-◌, ◌⊎◌, ◌%◌, ◌<◌, ◌≤◌, List, [], ◌∷◌, ◌++◌, length, replicate, take, drop, get_or, refl, sym, ap, subst, ◌∙◌, inl, inr, append_assoc, length-append, length-drop, add-one, arith}
use Rattle.std.specs.List.{flat_map, AllByRecursion}
use Rattle.std.proofs.Math.Seq.{drop-cons, take-add}
use Rattle.std.proofs.lemmas.List.{append-nil, take-append-drop, take_all, drop_all, take_more, drop-drop, get_or-drop, length-take-le, map_push}
use Rattle.std.proofs.Math.ListN.{length-replicate}
use Rattle.std.proofs.lemmas.Bool.{cases_eq}
use Rattle.std.proofs.lemmas.List.Concat.{flat_map-append}
use Rattle.jr_base.specs.declared.marker.TheConstants.{EOI, PREFIX, RST0, RST7, SOI}
use Rattle.jr_cut.specs.declared.scan_end.ScanEnd.{ScanEnd}
use Rattle.jr_cut.specs.Cut.{Spelling, IsSpelling, spelling, byte_spelled, IsRaw, marker, CodedSegment, with_markers, HasMarker, IsEnding, CutFrom, IsCut, IsStop}
use Rattle.jr_cut.specs.Cut.Spelling.{Plain, Stuffed}

all_push : (parts : List Spelling) (p : Spelling) → AllByRecursion IsSpelling parts → IsSpelling p → AllByRecursion IsSpelling (parts ++ p ∷ [])
all_push [] p each is = (is, tt)
all_push (q ∷ parts) p each is = (each.0, all_push parts p each.1 is)

pub raw_none : IsRaw [] []
raw_none = record { parts = []; each = tt; spelled = refl; means = refl }

-- one more spelling is appended
pub raw_more : (raw bytes : List ℕ) (p : Spelling) → IsRaw raw bytes → IsSpelling p → IsRaw (raw ++ spelling p) (bytes ++ byte_spelled p ∷ [])
raw_more raw bytes p r is = record {
  parts = r.parts ++ p ∷ [];
  each = all_push r.parts p r.each is;
  spelled = ap (λ (x : List ℕ). x ++ spelling p) r.spelled ∙ ap (λ (x : List ℕ). flat_map spelling r.parts ++ x) (sym (append-nil (spelling p))) ∙ sym (flat_map-append spelling r.parts (p ∷ []));
  means = ap (λ (x : List ℕ). x ++ byte_spelled p ∷ []) r.means ∙ sym (map_push byte_spelled r.parts p);
}

-- the last segment
pub cut_last : (n k at : ℕ) (bytes raw found tail : List ℕ) (end : ScanEnd) → k < n → IsRaw raw found → bytes ≡ raw ++ tail → IsEnding n k (at + length raw) tail end → CutFrom n k at bytes (found ∷ []) end
cut_last n k at bytes raw found tail end few is e ends =
    let a : k ≡ k + 0 = omega arith in
    let b : at + length raw ≡ at + length (raw ++ []) = ap (λ (x : List ℕ). at + length x) (sym (append-nil raw)) in
    record {
      raw = raw;
      first = found;
      segments = [];
      tail = tail;
      is_raw = is;
      each = tt;
      few = omega arith;
      spelled = e;
      means = refl;
      ends = subst (λ (j : ℕ). IsEnding n j (at + length (raw ++ [])) tail end) a (subst (λ (j : ℕ). IsEnding n k j tail end) b ends);
    }

pub cut_last_tail : (n k at : ℕ) (bytes raw found tail : List ℕ) (end : ScanEnd) (few : k < n) (is : IsRaw raw found) (e : bytes ≡ raw ++ tail) (ends : IsEnding n k (at + length raw) tail end)
    → (cut_last n k at bytes raw found tail end few is e ends).tail ≡ tail
unfolding cut_last
cut_last_tail n k at bytes raw found tail end few is e ends = refl

-- a segment and its marker before others
pub cut_next : (n k at at' more : ℕ) (bytes raw found rest : List ℕ) (datas : List (List ℕ)) (end : ScanEnd) → IsRaw raw found → bytes ≡ raw ++ (marker more (RST0 + k % 8) ++ rest) → at' ≡ at + length raw + more + 2
    → CutFrom n (suc k) at' rest datas end → CutFrom n k at bytes (found ∷ datas) end
cut_next n k at at' more bytes raw found rest datas end is e next c =
    let p : CodedSegment = record { more = more; raw = c.raw; bytes = c.first } in
    let m = marker more (RST0 + k % 8) in
    let tail_at : at' + length (c.raw ++ with_markers (suc k) c.segments) ≡ at + length (raw ++ (m ++ (c.raw ++ with_markers (suc k) c.segments)))
    = omega (arith, next, length-append raw (m ++ (c.raw ++ with_markers (suc k) c.segments)), length-append m (c.raw ++ with_markers (suc k) c.segments), length-append (replicate more PREFIX) ((RST0 + k % 8) ∷ []), length-replicate {A = ℕ} more PREFIX) in
    let number : suc k + length c.segments ≡ k + suc (length c.segments) = omega arith in
    record {
      raw = raw;
      first = found;
      segments = p ∷ c.segments;
      tail = c.tail;
      is_raw = is;
      each = (c.is_raw, c.each);
      few = omega (arith, c.few);
      spelled = e ∙ ap (λ (x : List ℕ). raw ++ (m ++ x)) (c.spelled ∙ sym (append_assoc c.raw (with_markers (suc k) c.segments) c.tail)) ∙ ap (λ (x : List ℕ). raw ++ x) (sym (append_assoc m (c.raw ++ with_markers (suc k) c.segments) c.tail));
      means = ap (λ (x : List (List ℕ)). found ∷ x) c.means;
      ends = subst (λ (j : ℕ). IsEnding n j (at + length (raw ++ (m ++ (c.raw ++ with_markers (suc k) c.segments)))) c.tail end) number (subst (λ (j : ℕ). IsEnding n (suc k + length c.segments) j c.tail end) tail_at c.ends);
    }

pub cut_next_tail : (n k at at' more : ℕ) (bytes raw found rest : List ℕ) (datas : List (List ℕ)) (end : ScanEnd) (is : IsRaw raw found) (e : bytes ≡ raw ++ (marker more (RST0 + k % 8) ++ rest)) (next : at' ≡ at + length raw + more + 2)
    (c : CutFrom n (suc k) at' rest datas end) → (cut_next n k at at' more bytes raw found rest datas end is e next c).tail ≡ c.tail
unfolding cut_next
cut_next_tail n k at at' more bytes raw found rest datas end is e next c = refl

-- the progress of the cutter: it is at segment k
pub record PartialCut (n start : ℕ) (bytes : List ℕ) (segments : List (List ℕ)) (at k : ℕ) : Type 0 where
  pub few : k < n
  pub within : at ≤ length bytes
  pub on : (datas : List (List ℕ)) (end : ScanEnd) → CutFrom n k (start + at) (drop at bytes) datas end → CutFrom n 0 start bytes (segments ++ datas) end

pub partial_first : (n start : ℕ) (bytes : List ℕ) → 0 < n → PartialCut n start bytes [] 0 0
partial_first n start bytes some = record {
  few = some;
  within = omega arith;
  on = λ datas end c. let e : start + 0 ≡ start = omega arith in subst (λ (a : ℕ). CutFrom n 0 a bytes datas end) e c;
}

-- n FF bytes at the start, and what follows
pub fill_split : (xs : List ℕ) (n : ℕ) → take n xs ≡ replicate n PREFIX → xs ≡ replicate n PREFIX ++ drop n xs
fill_split xs n e = sym (take-append-drop n xs) ∙ ap (λ (x : List ℕ). x ++ drop n xs) e

-- the bytes starting at an offset, as the slice that they are read from
pub rest_is : (xs : List ℕ) (n : ℕ) → take (length xs - n) (drop n xs) ≡ drop n xs
rest_is xs n = take_all (length xs - n) (drop n xs) (omega (arith, length-drop n xs))

-- the bytes that a segment stops at, if they begin with n FF bytes
pub stop_end : (bytes : List ℕ) (at n : ℕ) → at ≤ length bytes → take n (drop at bytes) ≡ replicate n PREFIX → length bytes ≤ at + n → IsStop (drop at bytes)
stop_end bytes at n h full past =
    let none : drop n (drop at bytes) ≡ [] = drop_all n (drop at bytes) (omega (arith, length-drop at bytes)) in
    record { more = n; rest = []; spelled = fill_split (drop at bytes) n full ∙ ap (λ (x : List ℕ). replicate n PREFIX ++ x) none; stops = inl refl }

pub code_at : (bytes : List ℕ) (at n : ℕ) → at + n < length bytes → drop n (drop at bytes) ≡ get_or bytes (at + n) 0 ∷ drop (at + n + 1) bytes
code_at bytes at n h = drop-drop n at bytes ∙ drop-cons bytes (at + n) 0 h ∙ ap (λ (k : ℕ). get_or bytes (at + n) 0 ∷ drop k bytes) (sym (add-one (at + n)))

pub stop_code : (bytes : List ℕ) (at n : ℕ) → take n (drop at bytes) ≡ replicate n PREFIX → at + n < length bytes → 0 < n → get_or bytes (at + n) 0 ≢ PREFIX → get_or bytes (at + n) 0 ≢ 0 → IsStop (drop at bytes)
stop_code bytes at n full h some not_ff not_0 =
    record { more = n; rest = drop n (drop at bytes); spelled = fill_split (drop at bytes) n full; stops = inr (some, get_or bytes (at + n) 0, drop (at + n + 1) bytes, not_0, not_ff, code_at bytes at n h) }

pub fill_next : (bytes : List ℕ) (at n : ℕ) → at + n < length bytes → (n < length (drop at bytes) → get_or (drop at bytes) n 0 ≢ PREFIX) → get_or bytes (at + n) 0 ≢ PREFIX
fill_next bytes at n h next = subst (λ (b : ℕ). b ≢ PREFIX) (get_or-drop at bytes n 0) (next (omega (arith, length-drop at bytes)))

pub fill_some : (bytes : List ℕ) (at n : ℕ) → at < length bytes → get_or bytes at 0 ≡ PREFIX → (at + n < length bytes → get_or bytes (at + n) 0 ≢ PREFIX) → 0 < n
fill_some bytes at zero h ff next = let e : at + 0 ≡ at = omega arith in absurd (next (omega arith) (ap (λ (k : ℕ). get_or bytes k 0) e ∙ ff))
fill_some bytes at (suc n) h ff next = omega arith

pub raw_plain : (bytes found : List ℕ) (at : ℕ) → at < length bytes → get_or bytes at 0 ≢ PREFIX → IsRaw (take at bytes) found → IsRaw (take (at + 1) bytes) (found ++ get_or bytes at 0 ∷ [])
raw_plain bytes found at h not_ff r = subst (λ (x : List ℕ). IsRaw x (found ++ get_or bytes at 0 ∷ [])) (sym (take_more bytes at 0 h)) (raw_more (take at bytes) found (Plain (get_or bytes at 0)) r not_ff)

pub raw_stuffed : (bytes found : List ℕ) (at n : ℕ) → at + n < length bytes → take n (drop at bytes) ≡ replicate n PREFIX → 0 < n → get_or bytes (at + n) 0 ≡ 0 → IsRaw (take at bytes) found → IsRaw (take (at + n + 1) bytes) (found ++ PREFIX ∷ [])
raw_stuffed bytes found at zero h full some zero_byte r = absurd (omega arith)
raw_stuffed bytes found at (suc m) h full some zero_byte r =
    let e : at + suc m + 1 ≡ at + (suc m + 1) = omega arith in
    let b : get_or (drop at bytes) (suc m) 0 ≡ 0 = get_or-drop at bytes (suc m) 0 ∙ zero_byte in
    let t : take (suc m + 1) (drop at bytes) ≡ replicate (suc m) PREFIX ++ 0 ∷ [] = take_more (drop at bytes) (suc m) 0 (omega (arith, length-drop at bytes)) ∙ ap (λ (x : List ℕ). x ++ get_or (drop at bytes) (suc m) 0 ∷ []) full ∙ ap (λ (x : ℕ). replicate (suc m) PREFIX ++ x ∷ []) b in
    let whole : take (at + suc m + 1) bytes ≡ take at bytes ++ spelling (Stuffed m) = ap (λ (k : ℕ). take k bytes) e ∙ take-add at (suc m + 1) bytes ∙ ap (λ (x : List ℕ). take at bytes ++ x) t in
    subst (λ (x : List ℕ). IsRaw x (found ++ PREFIX ∷ [])) (sym whole) (raw_more (take at bytes) found (Stuffed m) r tt)

-- a run of FF bytes ends at one offset
pub run_same : (m n a b : ℕ) (x y : List ℕ) → a ≢ PREFIX → b ≢ PREFIX → replicate m PREFIX ++ (a ∷ x) ≡ replicate n PREFIX ++ (b ∷ y) → (m ≡ n) × (a ≡ b) × (x ≡ y)
run_same zero zero a b x y ha hb e = (refl, cc, cc)
run_same zero (suc n) a b x y ha hb e = let h : a ≡ PREFIX = cc in absurd (ha h)
run_same (suc m) zero a b x y ha hb e = let h : b ≡ PREFIX = cc in absurd (hb h)
run_same (suc m) (suc n) a b x y ha hb e =
    let t : replicate m PREFIX ++ (a ∷ x) ≡ replicate n PREFIX ++ (b ∷ y) = cc in
    let r = run_same m n a b x y ha hb t in
    (ap suc r.0, r.1, r.2)

pub run_end : (m n a : ℕ) (x : List ℕ) → a ≢ PREFIX → replicate m PREFIX ++ (a ∷ x) ≡ replicate n PREFIX → ⊥
run_end zero zero a x ha e = cc
run_end zero (suc n) a x ha e = let h : a ≡ PREFIX = cc in ha h
run_end (suc m) zero a x ha e = cc
run_end (suc m) (suc n) a x ha e = let t : replicate m PREFIX ++ (a ∷ x) ≡ replicate n PREFIX = cc in run_end m n a x ha t

pub stop_some : (tail : List ℕ) (n code : ℕ) (after : List ℕ) → IsStop tail → tail ≡ replicate n PREFIX ++ (code ∷ after) → code ≢ PREFIX → (0 < n) × (code ≢ 0)
stop_some tail n code after s e not_ff = go s.stops
  where
    go : (s.rest ≡ []) ⊎ ((0 < s.more) × (code : ℕ) × (after : List ℕ) × (code ≢ 0) × (code ≢ PREFIX) × (s.rest ≡ code ∷ after)) → (0 < n) × (code ≢ 0)
    go (inl none) = absurd (run_end n s.more code after not_ff (sym e ∙ s.spelled ∙ ap (λ (x : List ℕ). replicate s.more PREFIX ++ x) none ∙ append-nil (replicate s.more PREFIX)))
    go (inr (some, c, aft, not_0, not_prefix, is)) =
        let r = run_same n s.more code c after aft not_ff not_prefix (sym e ∙ s.spelled ∙ ap (λ (x : List ℕ). replicate s.more PREFIX ++ x) is) in
        (omega (arith, r.0, some), λ z. not_0 (sym r.1 ∙ z))

-- a segment that was read at offset `at`, of `len` bytes
pub record SegmentRead (bytes found : List ℕ) (at len : ℕ) : Type 0 where
  pub within : at + len ≤ length bytes
  pub raw : IsRaw (take len (drop at bytes)) found
  pub stop : IsStop (drop (at + len) bytes)

pub segment_read : (bytes found : List ℕ) (at len : ℕ) → at ≤ length bytes → len ≤ length (drop at bytes) → IsRaw (take len (drop at bytes)) found → IsStop (drop len (drop at bytes)) → SegmentRead bytes found at len
segment_read bytes found at len h within raw stop = record {
  within = omega (arith, within, length-drop at bytes);
  raw = raw;
  stop = subst IsStop (drop-drop len at bytes) stop;
}

-- FF bytes and a code after a segment
pub record MarkerRead (bytes : List ℕ) (at n : ℕ) : Type 0 where
  pub more : ℕ
  pub count : n ≡ suc more
  pub not_0 : get_or bytes (at + n) 0 ≢ 0
  pub spelled : drop at bytes ≡ marker more (get_or bytes (at + n) 0) ++ drop (at + n + 1) bytes

marker_at : (bytes : List ℕ) (at n : ℕ) → drop at bytes ≡ replicate n PREFIX ++ (get_or bytes (at + n) 0 ∷ drop (at + n + 1) bytes) → 0 < n → get_or bytes (at + n) 0 ≢ 0 → MarkerRead bytes at n
marker_at bytes at zero e some not_0 = absurd (omega arith)
marker_at bytes at (suc m) e some not_0 = record { more = m; count = refl; not_0 = not_0; spelled = e ∙ ap (λ (x : List ℕ). PREFIX ∷ x) (sym (append_assoc (replicate m PREFIX) (get_or bytes (at + suc m) 0 ∷ []) (drop (at + suc m + 1) bytes))) }

pub marker_read : (bytes : List ℕ) (at n : ℕ) → IsStop (drop at bytes) → take n (drop at bytes) ≡ replicate n PREFIX → at + n < length bytes → get_or bytes (at + n) 0 ≢ PREFIX → MarkerRead bytes at n
marker_read bytes at n stop full h not_ff =
    let e : drop at bytes ≡ replicate n PREFIX ++ (get_or bytes (at + n) 0 ∷ drop (at + n + 1) bytes) = fill_split (drop at bytes) n full ∙ ap (λ (x : List ℕ). replicate n PREFIX ++ x) (code_at bytes at n h) in
    let s = stop_some (drop at bytes) n (get_or bytes (at + n) 0) (drop (at + n + 1) bytes) stop e not_ff in
    marker_at bytes at n e s.0 s.1

pub has_marker : (bytes : List ℕ) (at n code : ℕ) → MarkerRead bytes at n → get_or bytes (at + n) 0 ≡ code → HasMarker (drop at bytes) code
has_marker bytes at n code m e = (m.more, drop (at + n + 1) bytes, m.spelled ∙ ap (λ (c : ℕ). marker m.more c ++ drop (at + n + 1) bytes) e)

pub cut_returns : (n start : ℕ) (bytes found : List ℕ) (segments new : List (List ℕ)) (at k len : ℕ) (end : ScanEnd) → PartialCut n start bytes segments at k → SegmentRead bytes found at len → new ≡ segments ++ found ∷ []
    → IsEnding n k (start + (at + len)) (drop (at + len) bytes) end → IsCut n start bytes new end
cut_returns n start bytes found segments new at k len end s p e ends =
    let count : length (take len (drop at bytes)) ≡ len = length-take-le len (drop at bytes) (omega (arith, p.within, length-drop at bytes)) in
    let place : start + (at + len) ≡ start + at + length (take len (drop at bytes)) = omega (arith, count) in
    let split : drop at bytes ≡ take len (drop at bytes) ++ drop (at + len) bytes = sym (take-append-drop len (drop at bytes)) ∙ ap (λ (x : List ℕ). take len (drop at bytes) ++ x) (drop-drop len at bytes) in
    subst (λ (x : List (List ℕ)). IsCut n start bytes x end) (sym e)
    (s.on (found ∷ []) end (cut_last n k (start + at) (drop at bytes) (take len (drop at bytes)) found (drop (at + len) bytes) end s.few p.raw split (subst (λ (j : ℕ). IsEnding n k j (drop (at + len) bytes) end) place ends)))

pub cut_more : (n start : ℕ) (bytes found : List ℕ) (segments new : List (List ℕ)) (at k len fill at' k' : ℕ) → PartialCut n start bytes segments at k → SegmentRead bytes found at len → new ≡ segments ++ found ∷ []
    → MarkerRead bytes (at + len) fill → get_or bytes (at + len + fill) 0 ≡ RST0 + k % 8 → at' ≡ at + len + fill + 1 → k' ≡ k + 1 → k' < n → at' ≤ length bytes → PartialCut n start bytes new at' k'
cut_more n start bytes found segments new at k len fill at' k' s p e m code next number few within =
    let count : length (take len (drop at bytes)) ≡ len = length-take-le len (drop at bytes) (omega (arith, p.within, length-drop at bytes)) in
    let split : drop at bytes ≡ take len (drop at bytes) ++ (marker m.more (RST0 + k % 8) ++ drop at' bytes)
    = sym (take-append-drop len (drop at bytes)) ∙ ap (λ (x : List ℕ). take len (drop at bytes) ++ x) (drop-drop len at bytes ∙ m.spelled ∙ ap (λ (c : ℕ). marker m.more c ++ drop (at + len + fill + 1) bytes) code ∙ ap (λ (j : ℕ). marker m.more (RST0 + k % 8) ++ drop j bytes) (sym next)) in
    let place : start + at' ≡ start + at + length (take len (drop at bytes)) + m.more + 2 = omega (arith, count, next, m.count) in
    let one : k' ≡ suc k = omega arith in
    record {
      few = few;
      within = within;
      on = λ datas end c. subst (λ (x : List (List ℕ)). IsCut n start bytes x end) (ap (λ (x : List (List ℕ)). x ++ datas) (sym e)) (subst (λ (x : List (List ℕ)). IsCut n start bytes x end) (sym (append_assoc segments (found ∷ []) datas))
          (s.on (found ∷ datas) end (cut_next n k (start + at) (start + at') m.more (drop at bytes) (take len (drop at bytes)) found (drop at' bytes) datas end p.raw split place (subst (λ (j : ℕ). CutFrom n j (start + at') (drop at' bytes) datas end) one c))));
    }

pub all_fill : (bytes : List ℕ) (at n : ℕ) → at ≤ length bytes → take n (drop at bytes) ≡ replicate n PREFIX → length bytes ≤ at + n → (more : ℕ) × (drop at bytes ≡ replicate more PREFIX)
all_fill bytes at n h full past =
    let none : drop n (drop at bytes) ≡ [] = drop_all n (drop at bytes) (omega (arith, length-drop at bytes)) in
    (n, fill_split (drop at bytes) n full ∙ ap (λ (x : List ℕ). replicate n PREFIX ++ x) none ∙ append-nil (replicate n PREFIX))

pub other_code : (code : ℕ) → code ≢ EOI → (code < RST0) ⊎ ((RST0 ≤ code) × (RST7 < code)) → (code < RST0) ⊎ ((code ≡ SOI) ⊎ (EOI < code))
other_code code ne (inl l) = inl l
other_code code ne (inr g) = inr (elim (cases_eq code SOI) [ inl e ↦ inl e | inr differs ↦ inr (omega arith) ])
