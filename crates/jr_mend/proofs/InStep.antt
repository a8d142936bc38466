-- A scan whose restart markers are in step is resynchronised to the segments that it is cut into.
use Rattle.std.proofs.Common.{◌≡◌, ℕ, suc, ◌+◌, ◌%◌, ◌<◌, ◌⊎◌, true, inl, inr, List, [], ◌∷◌, ◌++◌, length, map, drop, refl, sym, ap, subst, ◌∙◌, append_assoc, length-append, Some, arith}
use Rattle.std.specs.List.{AllByRecursion, flat_map}
use Rattle.std.proofs.Math.Seq.{drop-append_seam}
use Rattle.std.proofs.lemmas.List.{length-map}
use Rattle.jr_base.specs.declared.marker.TheConstants.{RST0}
use Rattle.jr_cut.specs.declared.scan_end.ScanEnd.{ScanEnd}
use Rattle.jr_cut.specs.Cut.{CodedSegment, IsCut, IsEnding, IsRaw, marker, with_markers}
use Rattle.jr_mend.specs.Markers.{is_over, markers_in, scan_bytes, scan_markers}
use Rattle.jr_mend.specs.Resync.{AreParts, EndsResync, IsInStep, IsResync, Part, PartsFrom, Resync, breaks_of, new_segments, part_bytes, since_after}
use Rattle.jr_mend.proofs.ResyncLaw.{one_resync}

unfoldable pub parts_of : ℕ → List CodedSegment → List Part
parts_of k [] = []
parts_of k (p ∷ ps) = (record { more = p.more; code = RST0 + k % 8; missing = Some 0; raw = p.raw; bytes = p.bytes }) ∷ parts_of (suc k) ps

are_parts : (n size since j k at : ℕ) (tail : List ℕ) (end : ScanEnd) (ps : List CodedSegment) → j ≡ k → AllByRecursion (λ p. IsRaw p.raw p.bytes) ps → k + length ps < n
    → EndsResync n (k + length ps) (at + length (flat_map part_bytes (parts_of k ps))) tail end → AreParts n size since j at tail end (parts_of k ps)
unfolding parts_of
are_parts n size since j k at tail end [] same each few ends =
    let number : k + 0 ≡ j = omega (arith, same) in
    let place : at + 0 ≡ at = omega arith in
    subst (λ (o : ℕ). EndsResync n j o tail end) place (subst (λ (i : ℕ). EndsResync n i (at + 0) tail end) number ends)
are_parts n size since j k at tail end (p ∷ ps) same each few ends =
    let here = marker p.more (RST0 + k % 8) ++ p.raw in
    let rest = flat_map part_bytes (parts_of (suc k) ps) in
    let due : k ≡ j + 0 = omega (arith, same) in
    let number : k + suc (length ps) ≡ suc k + length ps = omega arith in
    let place : at + length (here ++ rest) ≡ at + length here + length rest = omega (arith, length-append here rest) in
    let last = subst (λ (o : ℕ). EndsResync n (suc k + length ps) o tail end) place (subst (λ (i : ℕ). EndsResync n i (at + length (here ++ rest)) tail end) number ends) in (
      inl (omega (arith, same, few), ap (λ (i : ℕ). RST0 + i % 8) due, inl refl),
      each.0,
      are_parts n size (since_after since (Some 0) (length here)) (suc (j + 0)) (suc k) (at + length here) tail end ps (omega (arith, same)) each.1 (omega (arith, few)) last,
    )

bytes_are : (k : ℕ) (ps : List CodedSegment) → flat_map part_bytes (parts_of k ps) ≡ with_markers k ps
unfolding parts_of
bytes_are k [] = refl
bytes_are k (p ∷ ps) =
    let m = marker p.more (RST0 + k % 8) in
    append_assoc m p.raw (flat_map part_bytes (parts_of (suc k) ps)) ∙ ap (λ (x : List ℕ). m ++ (p.raw ++ x)) (bytes_are (suc k) ps)

datas_are : (k : ℕ) (ps : List CodedSegment) → flat_map (λ (p : Part). new_segments p.missing p.bytes) (parts_of k ps) ≡ map (λ (p : CodedSegment). p.bytes) ps
unfolding parts_of
datas_are k [] = refl
datas_are k (p ∷ ps) = ap (λ (x : List (List ℕ)). p.bytes ∷ x) (datas_are (suc k) ps)

breaks_are : (at j k : ℕ) (ps : List CodedSegment) → breaks_of at j (parts_of k ps) ≡ []
unfolding parts_of
breaks_are at j k [] = refl
breaks_are at j k (p ∷ ps) = breaks_are (at + length (marker p.more (RST0 + k % 8) ++ p.raw)) (suc (j + 0)) (suc k) ps

ends_in_step : (n k at : ℕ) (tail : List ℕ) (end : ScanEnd) → IsInStep end → (k + 1 ≡ n) ⊎ (is_over n (markers_in 0 tail) ≡ true) → IsEnding n k at tail end → EndsResync n k at tail end
ends_in_step n k at tail end (inl file) over h = (h, inl file)
ends_in_step n k at tail end (inr (inl image)) (inl all) h = (h, inr (inr all))
ends_in_step n k at tail end (inr (inl image)) (inr over) h = (h, inr (inl (image, over)))
ends_in_step n k at tail end (inr (inr extra)) over h = (h, inr (inr (subst (IsEnding n k at tail) extra.1 h).3))

module _ (n at : ℕ) (bytes : List ℕ) (datas : List (List ℕ)) (end : ScanEnd) (c : IsCut n at bytes datas end) (in_step : IsInStep end) (over : (0 + length c.segments + 1 ≡ n) ⊎ (is_over n (markers_in 0 c.tail) ≡ true)) where
  abbrev pub parts : List Part
  parts = parts_of 0 c.segments

  abbrev rest : List ℕ
  rest = with_markers 0 c.segments ++ c.tail

  unfoldable pub after : Resync
  after = record { raws = flat_map (λ (p : Part). new_segments p.missing p.raw) parts; datas = map (λ (p : CodedSegment). p.bytes) c.segments; breaks = []; end = end }

  abbrev pub whole : Resync
  whole = record { raws = c.raw ∷ after.raws; datas = c.first ∷ after.datas; breaks = after.breaks; end = after.end }

  follows : PartsFrom n (scan_bytes (scan_markers n bytes)) (length c.raw) 0 (at + length c.raw) rest after
  unfolding after
  follows =
      let spelled = bytes_are 0 c.segments in
      let place : at + length (c.raw ++ with_markers 0 c.segments) ≡ at + length c.raw + length (flat_map part_bytes parts) = omega (arith, length-append c.raw (with_markers 0 c.segments), ap length spelled) in
      let here = subst (λ (o : ℕ). EndsResync n (0 + length c.segments) o c.tail end) place (ends_in_step n (0 + length c.segments) (at + length (c.raw ++ with_markers 0 c.segments)) c.tail end in_step over c.ends) in
      record {
        parts = parts;
        tail = c.tail;
        are = are_parts n (scan_bytes (scan_markers n bytes)) (length c.raw) 0 0 (at + length c.raw) c.tail end c.segments refl c.each c.few here;
        spelled = ap (λ (x : List ℕ). x ++ c.tail) (sym spelled);
        raws = refl;
        datas = sym (datas_are 0 c.segments);
        breaks = sym (breaks_are (at + length c.raw) 0 0 c.segments);
      }

  pub resync : IsResync n at bytes whole
  resync = record {
    some = omega (arith, c.few);
    raw = c.raw;
    first = c.first;
    rest = rest;
    after = after;
    is_raw = c.is_raw;
    spelled = c.spelled;
    parts = follows;
    is = refl;
  }

  pub in_step_stays : (r : Resync) → IsResync n at bytes r → (r.datas ≡ datas) × (r.breaks ≡ []) × (r.end ≡ end)
  unfolding after
  in_step_stays r is =
      let same = one_resync n at bytes r whole is resync in
      (ap (λ (x : Resync). x.datas) same ∙ sym c.means, ap (λ (x : Resync). x.breaks) same, ap (λ (x : Resync). x.end) same)

-- the number of segments
pub all_segments : (n at : ℕ) (bytes : List ℕ) (datas : List (List ℕ)) (end : ScanEnd) (c : IsCut n at bytes datas end) → length datas ≡ n → 0 + length c.segments + 1 ≡ n
all_segments n at bytes datas end c all = omega (arith, all, ap length c.means, length-map c.segments (λ (p : CodedSegment). p.bytes))

-- what ends them
pub over_by : (n at : ℕ) (bytes : List ℕ) (datas : List (List ℕ)) (end : ScanEnd) (c : IsCut n at bytes datas end) → (length datas ≡ n) ⊎ ((k : ℕ) → is_over n (markers_in 0 (drop k bytes)) ≡ true) → (0 + length c.segments + 1 ≡ n) ⊎ (is_over n (markers_in 0 c.tail) ≡ true)
over_by n at bytes datas end c (inl all) = inl (all_segments n at bytes datas end c all)
over_by n at bytes datas end c (inr none) =
    let front = c.raw ++ with_markers 0 c.segments in
    let whole : bytes ≡ front ++ c.tail = c.spelled ∙ sym (append_assoc c.raw (with_markers 0 c.segments) c.tail) in
    let tail : drop (length front) bytes ≡ c.tail = ap (drop (length front)) whole ∙ drop-append_seam front c.tail in
    inr (subst (λ (x : List ℕ). is_over n (markers_in 0 x) ≡ true) tail (none (length front)))
