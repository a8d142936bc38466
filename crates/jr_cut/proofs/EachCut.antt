-- Bytes can be cut into segments, whatever they are.
use Rattle.std.proofs.Common.{◌≡◌, ◌≢◌, ℕ, zero, suc, ◌+◌, ◌-◌, ◌%◌, ◌<◌, ◌≤◌, ◌⊎◌, inl, inr, List, [], ◌∷◌, ◌++◌, length, replicate, drop, refl, sym, ap, subst, ◌∙◌, append_assoc, length-append, arith}
use Rattle.std.specs.List.{All}
use Rattle.std.proofs.Math.Seq.{drop-append_seam}
use Rattle.std.proofs.lemmas.Bool.{cases_eq, cases_lt}
use Rattle.std.proofs.lemmas.List.{append-nil}
use Rattle.std.proofs.lemmas.List.Elements.{All-drop, All-head}
use Rattle.jr_base.specs.declared.marker.TheConstants.{EOI, PREFIX, RST0, RST7}
use Rattle.jr_cut.specs.declared.scan_end.ScanEnd.{ScanEnd}
use Rattle.jr_cut.specs.declared.scan_end.ScanEnd.TheVariants.{EndOfImage, OtherMarker, OutOfStep, ExtraRestart, EndOfFile}
use Rattle.jr_cut.specs.Cut.{Spelling, IsSpelling, spelling, byte_spelled, IsRaw, marker, Cutting, IsEnding, CutFrom, IsStop}
use Rattle.jr_cut.specs.Cut.Spelling.{Plain, Stuffed}
use Rattle.jr_cut.proofs.Cuts.{cut_last, cut_next, other_code, raw_none}

-- ---- the first segment

-- a run of FF bytes, and what follows it
record Run (bytes : List ℕ) : Type 0 where
  more : ℕ
  rest : List ℕ
  is : bytes ≡ replicate more PREFIX ++ rest
  ends : (rest ≡ []) ⊎ ((code : ℕ) × (after : List ℕ) × (code ≢ PREFIX) × (rest ≡ code ∷ after))

run_of : (bytes : List ℕ) → Run bytes
run_of [] = record { more = 0; rest = []; is = refl; ends = inl refl }
run_of (b ∷ bs) = elim (cases_eq b PREFIX) [
  | inr differs ↦ record { more = 0; rest = b ∷ bs; is = refl; ends = inr (b, bs, differs, refl) }
  | inl ff ↦
      let r = run_of bs in
      record { more = suc r.more; rest = r.rest; is = ap (λ (c : ℕ). c ∷ bs) ff ∙ ap (λ (x : List ℕ). PREFIX ∷ x) r.is; ends = r.ends }
]

-- the bytes at the start that spell data, and the tail at which these stop
record Segment (bytes : List ℕ) : Type 0 where
  raw : List ℕ
  found : List ℕ
  tail : List ℕ
  is_raw : IsRaw raw found
  whole : bytes ≡ raw ++ tail
  stop : IsStop tail

no_data : (tail : List ℕ) → IsStop tail → Segment tail
no_data tail stop = record { raw = []; found = []; tail = tail; is_raw = raw_none; whole = refl; stop = stop }

segment_before : (bytes rest : List ℕ) (p : Spelling) → bytes ≡ spelling p ++ rest → IsSpelling p → Segment rest → Segment bytes
segment_before bytes rest p e is s = record {
  raw = spelling p ++ s.raw;
  found = byte_spelled p ∷ s.found;
  tail = s.tail;
  is_raw = record {
    parts = p ∷ s.is_raw.parts;
    each = (is, s.is_raw.each);
    spelled = ap (λ (x : List ℕ). spelling p ++ x) s.is_raw.spelled;
    means = ap (λ (x : List ℕ). byte_spelled p ∷ x) s.is_raw.means;
  };
  whole = e ∙ ap (λ (x : List ℕ). spelling p ++ x) s.whole ∙ sym (append_assoc (spelling p) s.raw s.tail);
  stop = s.stop;
}

-- the next byte is FF
at_prefix : (bs : List ℕ) → ((after : List ℕ) → length after ≤ length bs → Segment after) → Segment (PREFIX ∷ bs)
at_prefix bs next =
    let r = run_of bs in
    elim r.ends [
      | inl none ↦ no_data (PREFIX ∷ bs) (record { more = suc r.more; rest = []; spelled = ap (λ (x : List ℕ). PREFIX ∷ x) (r.is ∙ ap (λ (x : List ℕ). replicate r.more PREFIX ++ x) none); stops = inl refl })
      | inr (code, after, not_ff, is) ↦ elim (cases_eq code 0) [
        | inr not_0 ↦ no_data (PREFIX ∷ bs) (record { more = suc r.more; rest = r.rest; spelled = ap (λ (x : List ℕ). PREFIX ∷ x) r.is; stops = inr (omega arith, code, after, not_0, not_ff, is) })
        | inl stuffed ↦
            let there : r.rest ≡ 0 ∷ after = is ∙ ap (λ (c : ℕ). c ∷ after) stuffed in
            let spelled : PREFIX ∷ bs ≡ spelling (Stuffed r.more) ++ after =
            ap (λ (x : List ℕ). PREFIX ∷ x) (r.is ∙ ap (λ (x : List ℕ). replicate r.more PREFIX ++ x) there ∙ sym (append_assoc (replicate r.more PREFIX) (0 ∷ []) after)) in
            segment_before (PREFIX ∷ bs) after (Stuffed r.more) spelled tt (next after (omega (arith, ap length r.is, length-append (replicate r.more PREFIX) r.rest, ap length there)))
      ]
    ]

segment : (k : ℕ) (bytes : List ℕ) → length bytes ≤ k → Segment bytes
segment k [] few = no_data [] (record { more = 0; rest = []; spelled = refl; stops = inl refl })
segment zero (b ∷ bs) few = absurd (omega (arith, few))
segment (suc k) (b ∷ bs) few = elim (cases_eq b PREFIX) [
  | inl ff ↦ subst (λ (c : ℕ). Segment (c ∷ bs)) (sym ff) (at_prefix bs (λ after shorter. segment k after (omega (arith, few, shorter))))
  | inr differs ↦ segment_before (b ∷ bs) bs (Plain b) refl differs (segment k bs (omega (arith, few)))
]

-- ---- the marker at which it stops

record Marked (tail : List ℕ) (code : ℕ) (after : List ℕ) : Type 0 where
  more : ℕ
  is : tail ≡ marker more code ++ after

marked : (more code : ℕ) (tail rest after : List ℕ) → 0 < more → tail ≡ replicate more PREFIX ++ rest → rest ≡ code ∷ after → Marked tail code after
marked zero code tail rest after some e is = absurd (omega (arith, some))
marked (suc more) code tail rest after some e is = record {
  more = more;
  is = e ∙ ap (λ (x : List ℕ). replicate (suc more) PREFIX ++ x) is ∙ ap (λ (x : List ℕ). PREFIX ∷ x) (sym (append_assoc (replicate more PREFIX) (code ∷ []) after));
}

all_after : (P : ℕ → Type 0) (bytes front rest : List ℕ) → bytes ≡ front ++ rest → All P bytes → All P rest
all_after P bytes front rest e all = subst (All P) (ap (drop (length front)) e ∙ drop-append_seam front rest) (All-drop P (length front) bytes all)

-- ---- all segments

-- a cut of the bytes starting at segment k
record CutsFrom (n k at : ℕ) (bytes : List ℕ) : Type 0 where
  datas : List (List ℕ)
  end : ScanEnd
  is : CutFrom n k at bytes datas end

last : (n k at : ℕ) (bytes : List ℕ) (s : Segment bytes) (end : ScanEnd) → k < n → IsEnding n k (at + length s.raw) s.tail end → CutsFrom n k at bytes
last n k at bytes s end few ends = record { datas = s.found ∷ []; end = end; is = cut_last n k at bytes s.raw s.found s.tail end few s.is_raw s.whole ends }

module _ (n k at : ℕ) (bytes : List ℕ) (s : Segment bytes) (few : k < n) (code : ℕ) (after : List ℕ) (m : Marked s.tail code after) where
  other : 0 < code → code < PREFIX → code ≢ EOI → (code < RST0) ⊎ ((RST0 ≤ code) × (RST7 < code)) → CutsFrom n k at bytes
  other some less not_end is = last n k at bytes s (OtherMarker code (at + length s.raw)) few (some, less, (m.more, after, m.is), other_code code not_end is, refl)

  restart : RST0 ≤ code → code ≤ RST7 → (k + 1 < n → code ≡ RST0 + k % 8 → CutsFrom n (suc k) (at + length s.raw + m.more + 2) after) → CutsFrom n k at bytes
  restart low high next =
      let number : code ≡ RST0 + (code - RST0) = omega (arith, low) in
      let here : s.tail ≡ marker m.more (RST0 + (code - RST0)) ++ after = m.is ∙ ap (λ (c : ℕ). marker m.more c ++ after) number in
      elim (cases_eq (k + 1) n) [
        | inl all ↦ last n k at bytes s (ExtraRestart (at + length s.raw)) few (code - RST0, omega (arith, low, high), (m.more, after, here), all, refl)
        | inr further ↦
            let space : k + 1 < n = omega (arith, few, further) in
            elim (cases_eq code (RST0 + k % 8)) [
              | inr out ↦ last n k at bytes s (OutOfStep (code - RST0) (k % 8) (at + length s.raw)) few (omega (arith, low, high), (m.more, after, here), space, refl, (λ e. out (number ∙ ap (λ (c : ℕ). RST0 + c) e)), refl)
              | inl due ↦
                  let c = next space due in
                  let whole : bytes ≡ s.raw ++ (marker m.more (RST0 + k % 8) ++ after) = s.whole ∙ ap (λ (x : List ℕ). s.raw ++ x) (m.is ∙ ap (λ (c : ℕ). marker m.more c ++ after) due) in
                  record { datas = s.found ∷ c.datas; end = c.end; is = cut_next n k at (at + length s.raw + m.more + 2) m.more bytes s.raw s.found after c.datas c.end s.is_raw whole refl c.is }
            ]
      ]

  by_code : 0 < code → code < PREFIX → (k + 1 < n → code ≡ RST0 + k % 8 → CutsFrom n (suc k) (at + length s.raw + m.more + 2) after) → CutsFrom n k at bytes
  by_code some less next = elim (cases_eq code EOI) [
    | inl eoi ↦ last n k at bytes s EndOfImage few (m.more, after, m.is ∙ ap (λ (c : ℕ). marker m.more c ++ after) eoi)
    | inr not_end ↦ elim (cases_lt code RST0) [
      | inl low ↦ other some less not_end (inl low)
      | inr above ↦ elim (cases_lt RST7 code) [
        | inl high ↦ other some less not_end (inr (above, high))
        | inr within ↦ restart above within next
      ]
    ]
  ]

cuts_from : (left n k at : ℕ) (bytes : List ℕ) → k + left ≡ n → 0 < left → All (λ b. b < 256) bytes → CutsFrom n k at bytes
cuts_from zero n k at bytes e some small = absurd (omega (arith, some))
cuts_from (suc left) n k at bytes e some small =
    let s = segment (length bytes) bytes (omega arith) in
    let few : k < n = omega (arith, e) in
    elim s.stop.stops [
      | inl none ↦ last n k at bytes s EndOfFile few (s.stop.more, s.stop.spelled ∙ ap (λ (x : List ℕ). replicate s.stop.more PREFIX ++ x) none ∙ append-nil (replicate s.stop.more PREFIX))
      | inr (marks, code, after, not_0, not_ff, is) ↦
          let rest = all_after (λ b. b < 256) s.tail (replicate s.stop.more PREFIX) s.stop.rest s.stop.spelled (all_after (λ b. b < 256) bytes s.raw s.tail s.whole small) in
          let byte : code < 256 = All-head (λ b. b < 256) code after (subst (All (λ b. b < 256)) is rest) in
          let m = marked s.stop.more code s.tail s.stop.rest after marks s.stop.spelled is in
          by_code n k at bytes s few code after m (omega (arith, not_0)) (omega (arith, byte, not_ff))
          (λ space due. cuts_from left n (suc k) (at + length s.raw + m.more + 2) after (omega (arith, e)) (omega (arith, e, space)) (all_after (λ b. b < 256) s.stop.rest (code ∷ []) after is rest))
    ]

pub each_scan_has_a_cut : (n at : ℕ) (bytes : List ℕ) → 0 < n → All (λ b. b < 256) bytes → Cutting n at bytes
each_scan_has_a_cut n at bytes some small =
    let c = cuts_from n n 0 at bytes (omega arith) some small in
    record { datas = c.datas; end = c.end; is = c.is }
