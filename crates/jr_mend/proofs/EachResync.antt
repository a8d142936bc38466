-- The bytes of each scan can be resynchronised.
use Rattle.std.proofs.Common.{◌≡◌, ◌≢◌, ℕ, zero, suc, ◌+◌, ◌-◌, ◌*◌, ◌/◌, ◌%◌, ◌<◌, ◌≤◌, ◌⊎◌, inl, inr, List, [], ◌∷◌, ◌++◌, length, drop, refl, sym, ap, subst, ◌∙◌, append_assoc, length-append, Option, Some, None, arith}
use Rattle.std.specs.List.{All}
use Rattle.std.proofs.Math.Seq.{drop-append_seam}
use Rattle.std.proofs.lemmas.Bool.{cases_Bool, cases_eq, cases_lt}
use Rattle.std.proofs.lemmas.List.{nil_from_length}
use Rattle.std.proofs.lemmas.List.Elements.{All-drop}
use Rattle.jr_base.specs.declared.marker.TheConstants.{EOI, PREFIX, RST0, RST7, SOI}
use Rattle.jr_cut.specs.declared.scan_end.ScanEnd.{ScanEnd}
use Rattle.jr_cut.specs.declared.scan_end.ScanEnd.TheVariants.{EndOfImage, OtherMarker, OutOfStep, ExtraRestart, EndOfFile}
use Rattle.jr_cut.specs.Cut.{CodedSegment, Cutting, HasMarker, IsEnding, IsRaw, marker, with_markers}
use Rattle.jr_cut.proofs.EachCut.{each_scan_has_a_cut}
use Rattle.jr_cut.proofs.Segments.{length_marker}
use Rattle.jr_mend.specs.Markers.{is_over, markers_in, most_missing, scan_bytes, scan_markers}
use Rattle.jr_mend.specs.Resync.{EndsResync, IsAhead, IsMeaning, IsResync, MeansIn, Part, PartsFrom, Resync, number_after, part_bytes, since_after}
use Rattle.jr_mend.proofs.ResyncLaw.{is_due, same_below}
use Rattle.jr_mend.proofs.Resyncs.{few_after, parts_last, parts_next, with_part}

-- ---- the meaning of a marker

record Meaning (n k limit code : ℕ) : Type 0 where
  missing : Option ℕ
  is : IsMeaning n k limit code missing

-- the distance of the number of a code ahead of the one that is due, modulo 8
abbrev distance : (k code : ℕ) → ℕ
distance k code = (code - RST0 + 8 - k % 8) % 8

distance_is : (k code e : ℕ) → RST0 ≤ code → code ≤ RST7 → code ≡ RST0 + (k + e) % 8 → e % 8 ≡ distance k code
distance_is k code e low high is = omega arith

distance_there : (k code : ℕ) → RST0 ≤ code → code ≤ RST7 → code ≡ RST0 + (k + distance k code) % 8
distance_there k code low high = omega arith

-- the last number up to the limit that is at this distance ahead modulo 8
abbrev last_below : (limit e : ℕ) → ℕ
last_below limit e = e + (limit - e) / 8 * 8

below_there : (k limit code e : ℕ) → code ≡ RST0 + (k + e) % 8 → code ≡ RST0 + (k + last_below limit e) % 8
below_there k limit code e is = omega arith

below_last : (limit e : ℕ) → e ≤ limit → (last_below limit e ≤ limit) × (limit < last_below limit e + 8)
below_last limit e le = (omega arith, omega arith)

-- a number that is ahead equals this one
below_is : (n k limit code d e : ℕ) → IsAhead n k limit code e → code ≢ RST0 + k % 8 → code ≡ RST0 + (k + d) % 8 → (d ≤ limit) × (limit < d + 8) → e ≡ d
below_is n k limit code d e a other there last = go a.2
  where
    go : (e ≡ 0) ⊎ ((code ≢ RST0 + k % 8) × (e ≤ limit) × (limit < e + 8)) → e ≡ d
    go (inl z) = absurd (other (is_due k e code z a.1))
    go (inr z) = let same : (k + e) % 8 ≡ (k + d) % 8 = omega (arith, a.1, there) in same_below k limit e d z.1 last.0 z.2 last.1 same

module _ (n k limit code : ℕ) (some : 0 < code) (less : code < PREFIX) (goes : code ≢ EOI) (further : k + 1 < n) where
  passed : ((d : ℕ) → IsAhead n k limit code d → ⊥) → Meaning n k limit code
  passed none = record { missing = None; is = (some, less, goes, further, none) }

  -- the code is not the one that is due, and its distance is at most the limit
  near : code ≢ RST0 + k % 8 → RST0 ≤ code → code ≤ RST7 → distance k code ≤ limit → Meaning n k limit code
  near other low high le =
      let d = last_below limit (distance k code) in
      let last = below_last limit (distance k code) le in
      let there = below_there k limit code (distance k code) (distance_there k code low high) in
      elim (cases_lt (k + d + 1) n) [
        | inr beyond ↦ passed (λ e a. let same = below_is n k limit code d e a other there last in omega (arith, beyond, a.0, same))
        | inl inside ↦ record { missing = Some d; is = (inside, there, inr (other, last.0, last.1)) }
      ]

  -- no number at this distance is up to the limit
  far : code ≢ RST0 + k % 8 → RST0 ≤ code → code ≤ RST7 → limit < distance k code → (e : ℕ) → IsAhead n k limit code e → ⊥
  far other low high beyond e a = go a.2
    where
      go : (e ≡ 0) ⊎ ((code ≢ RST0 + k % 8) × (e ≤ limit) × (limit < e + 8)) → ⊥
      go (inl z) = other (is_due k e code z a.1)
      go (inr z) = omega (arith, beyond, distance_is k code e low high a.1, z.1)

  by_number : RST0 ≤ code → code ≤ RST7 → Meaning n k limit code
  by_number low high = elim (cases_eq code (RST0 + k % 8)) [
    | inl due ↦ let here : k ≡ k + 0 = omega arith in record { missing = Some 0; is = (omega (arith, further), due ∙ ap (λ (i : ℕ). RST0 + i % 8) here, inl refl) }
    | inr other ↦ elim (cases_lt limit (distance k code)) [
      | inl beyond ↦ passed (far other low high beyond)
      | inr le ↦ near other low high le
    ]
  ]

  meaning_of : Meaning n k limit code
  meaning_of = elim (cases_lt code RST0) [
    | inl low ↦ passed (λ e a. omega (arith, low, a.1))
    | inr above ↦ elim (cases_lt RST7 code) [
      | inl high ↦ passed (λ e a. omega (arith, high, a.1))
      | inr within ↦ by_number above within
    ]
  ]

-- ---- the bytes up to a marker, and the marker, as in a scan of one segment

record Front (bytes : List ℕ) : Type 0 where
  raw : List ℕ
  found : List ℕ
  tail : List ℕ
  is_raw : IsRaw raw found
  whole : bytes ≡ raw ++ tail
  at : ℕ
  end : ScanEnd
  ends : IsEnding 1 0 at tail end

front : (bytes : List ℕ) → All (λ b. b < 256) bytes → Front bytes
front bytes small = go c.is.segments c.is.few c.is.spelled c.is.ends
  where
    c : Cutting 1 0 bytes
    c = each_scan_has_a_cut 1 0 bytes (omega arith) small

    go : (ps : List CodedSegment) → 0 + length ps < 1 → bytes ≡ c.is.raw ++ (with_markers 0 ps ++ c.is.tail) → IsEnding 1 (0 + length ps) (0 + length (c.is.raw ++ with_markers 0 ps)) c.is.tail c.end → Front bytes
    go [] few spelled ends = record { raw = c.is.raw; found = c.is.first; tail = c.is.tail; is_raw = c.is.is_raw; whole = spelled; at = 0 + length (c.is.raw ++ []); end = c.end; ends = ends }
    go (p ∷ ps) few spelled ends = absurd (omega (arith, few))

small_after : (bytes before rest : List ℕ) → bytes ≡ before ++ rest → All (λ b. b < 256) bytes → All (λ b. b < 256) rest
small_after bytes before rest e all = subst (All (λ b. b < 256)) (ap (drop (length before)) e ∙ drop-append_seam before rest) (All-drop (λ b. b < 256) (length before) bytes all)

-- ---- all of them

record Follows (n size since k at : ℕ) (bytes : List ℕ) : Type 0 where
  r : Resync
  is : PartsFrom n size since k at bytes r

last : (n size since k at : ℕ) (tail : List ℕ) (end : ScanEnd) → EndsResync n k at tail end → Follows n size since k at tail
last n size since k at tail end ends = record { r = record { raws = []; datas = []; breaks = []; end = end }; is = parts_last n size since k at tail end ends }

module _ (n size since k at : ℕ) (tail : List ℕ) (few : k < n) (small : All (λ b. b < 256) tail)
    (next : (since k at o : ℕ) (t : List ℕ) (end : ScanEnd) → length t < length tail → k < n → IsEnding 1 0 o t end → All (λ b. b < 256) t → Follows n size since k at t) where
  on_by : (code : ℕ) (missing : Option ℕ) → HasMarker tail code → MeansIn n size since k tail code missing → Follows n size since k at tail
  on_by code missing m means =
      let mark = marker m.0 code in
      let small_rest = small_after tail mark m.1 m.2 small in
      let f = front m.1 small_rest in
      let p : Part = record { more = m.0; code = code; missing = missing; raw = f.raw; bytes = f.found } in
      let spelled : tail ≡ part_bytes p ++ f.tail = m.2 ∙ ap (λ (x : List ℕ). mark ++ x) f.whole ∙ sym (append_assoc mark f.raw f.tail) in
      let shorter : length f.tail < length tail = omega (arith, ap length spelled, length-append (part_bytes p) f.tail, length-append mark f.raw, length_marker m.0 code) in
      let others = next (since_after since missing (length (part_bytes p))) (number_after k missing) (at + length (part_bytes p)) f.at f.tail f.end shorter (few_after n size since k tail code missing means) f.ends (small_after m.1 f.raw f.tail f.whole small_rest) in
      record { r = with_part at k p others.r; is = parts_next n size since k at p tail f.tail others.r means f.is_raw spelled others.is }

  goes_on : (code : ℕ) → HasMarker tail code → 0 < code → code < PREFIX → code ≢ EOI → k + 1 < n → Follows n size since k at tail
  goes_on code m some less goes further =
      let a = meaning_of n k (most_missing n size since k (scan_markers n tail)) code some less goes further in
      on_by code a.missing m (inl a.is)

  restart : (number : ℕ) → number < 8 → HasMarker tail (RST0 + number) → Follows n size since k at tail
  restart number lt m = elim (cases_eq (k + 1) n) [
    | inl all ↦ last n size since k at tail (ExtraRestart at) ((number, lt, m, all, refl), inr (inr all))
    | inr further ↦ goes_on (RST0 + number) m (omega arith) (omega (arith, lt)) (λ e. omega (arith, lt, e)) (omega (arith, few, further))
  ]

  follows : (o : ℕ) (end : ScanEnd) → IsEnding 1 0 o tail end → Follows n size since k at tail
  follows o EndOfFile h = last n size since k at tail EndOfFile (h, inl refl)
  follows o EndOfImage h = elim (cases_Bool (is_over n (markers_in 0 tail))) [
    | inl over ↦ last n size since k at tail EndOfImage (h, inr (inl (refl, over)))
    | inr on ↦ elim (cases_eq (k + 1) n) [
      | inl all ↦ last n size since k at tail EndOfImage (h, inr (inr all))
      | inr further ↦ on_by EOI None h (inr (omega (arith, few, further), refl, on, refl))
    ]
  ]
  follows o (ExtraRestart at') h = restart h.0 h.1 h.2
  follows o (OutOfStep f x at') h = absurd (omega (arith, h.2))
  follows o (OtherMarker c at') h = elim (cases_eq (k + 1) n) [
    | inl all ↦ last n size since k at tail (OtherMarker c at) ((h.0, h.1, h.2, h.3, refl), inr (inr all))
    | inr further ↦ goes_on c h.2 h.0 h.1 (not_end c h.3) (omega (arith, few, further))
  ]
    where
      not_end : (c : ℕ) → (c < RST0) ⊎ ((c ≡ SOI) ⊎ (EOI < c)) → c ≢ EOI
      not_end c (inl l) e = omega (arith, l, e)
      not_end c (inr (inl q)) e = omega (arith, q, e)
      not_end c (inr (inr g)) e = omega (arith, g, e)

follows_from : (fuel n size since k at o : ℕ) (tail : List ℕ) (end : ScanEnd) → length tail ≤ fuel → k < n → IsEnding 1 0 o tail end → All (λ b. b < 256) tail → Follows n size since k at tail
follows_from zero n size since k at o tail end short few ends small = last n size since k at tail EndOfFile ((0, nil_from_length tail (omega (arith, short))), inl refl)
follows_from (suc fuel) n size since k at o tail end short few ends small =
    follows n size since k at tail few small (λ since' k' at' o' t e shorter few' ends' small'. follows_from fuel n size since' k' at' o' t e (omega (arith, short, shorter)) few' ends' small') o end ends

pub each_scan_resyncs : (n at : ℕ) (bytes : List ℕ) → 0 < n → All (λ b. b < 256) bytes → (r : Resync) × IsResync n at bytes r
each_scan_resyncs n at bytes some small =
    let f = front bytes small in
    let others = follows_from (length f.tail) n (scan_bytes (scan_markers n bytes)) (length f.raw) 0 (at + length f.raw) f.at f.tail f.end (omega arith) some f.ends (small_after bytes f.raw f.tail f.whole small) in
    let r : Resync = record { raws = f.raw ∷ others.r.raws; datas = f.found ∷ others.r.datas; breaks = others.r.breaks; end = others.r.end } in
    (r, record { some = some; raw = f.raw; first = f.found; rest = f.tail; after = others.r; is_raw = f.is_raw; spelled = f.whole; parts = others.is; is = refl })
