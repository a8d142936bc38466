-- Bytes that are segments with their markers, and grow.
use Rattle.std.proofs.Common.{◌≡◌, ℕ, suc, ◌+◌, ◌%◌, ◌<◌, List, [], ◌∷◌, ◌++◌, length, replicate, map, refl, sym, ap, subst, ◌∙◌, append_assoc, length-append, arith}
use Rattle.std.specs.List.{flat_map, AllByRecursion}
use Rattle.std.proofs.lemmas.List.{append-nil, map-append}
use Rattle.std.proofs.Math.ListN.{length-replicate}
use Rattle.std.proofs.lemmas.List.Concat.{flat_map-append}
use Rattle.jr_base.specs.declared.marker.TheConstants.{PREFIX, RST0}
use Rattle.jr_cut.specs.declared.scan_end.ScanEnd.{ScanEnd}
use Rattle.jr_cut.specs.Cut.{Spelling, IsSpelling, spelling, byte_spelled, IsRaw, marker, IsEnding, CutFrom}
use Rattle.jr_cut.specs.PartialCut.{AreSegments}
use Rattle.jr_cut.proofs.Cuts.{raw_none, cut_last, cut_next}

all_append : (ps qs : List Spelling) → AllByRecursion IsSpelling ps → AllByRecursion IsSpelling qs → AllByRecursion IsSpelling (ps ++ qs)
all_append [] qs hp hq = hq
all_append (p ∷ ps) qs hp hq = (hp.0, all_append ps qs hp.1 hq)

-- data grows
pub raw_append : (r d s e : List ℕ) → IsRaw r d → IsRaw s e → IsRaw (r ++ s) (d ++ e)
raw_append r d s e a b = record {
  parts = a.parts ++ b.parts;
  each = all_append a.parts b.parts a.each b.each;
  spelled = ap (λ (x : List ℕ). x ++ s) a.spelled ∙ ap (λ (x : List ℕ). flat_map spelling a.parts ++ x) b.spelled ∙ sym (flat_map-append spelling a.parts b.parts);
  means = ap (λ (x : List ℕ). x ++ e) a.means ∙ ap (λ (x : List ℕ). map byte_spelled a.parts ++ x) b.means ∙ sym (map-append byte_spelled a.parts b.parts);
}

pub longer : (raw m others s read : List ℕ) → read ≡ raw ++ (m ++ others) → read ++ s ≡ raw ++ (m ++ (others ++ s))
longer raw m others s read e = ap (λ (x : List ℕ). x ++ s) e ∙ append_assoc raw (m ++ others) s ∙ ap (λ (x : List ℕ). raw ++ x) (append_assoc m others s)

-- the last segment grows
pub segments_grow : (k : ℕ) (ds : List (List ℕ)) (last read s e : List ℕ) → AreSegments k read (ds ++ last ∷ []) → IsRaw s e → AreSegments k (read ++ s) (ds ++ (last ++ e) ∷ [])
segments_grow k [] last read s e a r = raw_append read last s e a r
segments_grow k (d ∷ []) last read s e (raw, more, others, is, first, a) r =
    (raw, more, others ++ s, longer raw (marker more (RST0 + k % 8)) others s read is, first, raw_append others last s e a r)
segments_grow k (d ∷ f ∷ ds) last read s e (raw, more, others, is, first, a) r =
    (raw, more, others ++ s, longer raw (marker more (RST0 + k % 8)) others s read is, first, segments_grow (suc k) (f ∷ ds) last others s e a r)

-- another one begins after the marker of the next number
pub segments_next : (k j more : ℕ) (ds : List (List ℕ)) (read : List ℕ) → AreSegments k read ds → suc j ≡ k + length ds → AreSegments k (read ++ marker more (RST0 + j % 8)) (ds ++ [] ∷ [])
segments_next k j more [] read a e = absurd a
segments_next k j more (d ∷ []) read a e =
    let same : k ≡ j = omega (arith, e) in
    (read, more, [], ap (λ (n : ℕ). read ++ marker more (RST0 + n % 8)) (sym same) ∙ ap (λ (x : List ℕ). read ++ x) (sym (append-nil (marker more (RST0 + k % 8)))), a, raw_none)
segments_next k j more (d ∷ f ∷ ds) read (raw, m, others, is, first, a) e =
    (raw, m, others ++ marker more (RST0 + j % 8), longer raw (marker m (RST0 + k % 8)) others (marker more (RST0 + j % 8)) read is, first, segments_next (suc k) j more (f ∷ ds) others a (omega (arith, e)))

pub length_marker : (more code : ℕ) → length (marker more code) ≡ more + 2
length_marker more code = omega (arith, length-append (replicate more PREFIX) (code ∷ []), length-replicate {A = ℕ} more PREFIX)

-- what ends the scan follows them
pub segments_end : (n k j at : ℕ) (ds : List (List ℕ)) (read tail : List ℕ) (end : ScanEnd) → AreSegments k read ds → suc j ≡ k + length ds → j < n → IsEnding n j (at + length read) tail end → CutFrom n k at (read ++ tail) ds end
segments_end n k j at [] read tail end a e few ends = absurd a
segments_end n k j at (d ∷ []) read tail end a e few ends =
    let same : j ≡ k = omega (arith, e) in
    cut_last n k at (read ++ tail) read d tail end (omega (arith, same, few)) a refl (subst (λ (i : ℕ). IsEnding n i (at + length read) tail end) same ends)
segments_end n k j at (d ∷ f ∷ ds) read tail end (raw, more, others, is, first, a) e few ends =
    let m = marker more (RST0 + k % 8) in
    let place : at + length read ≡ (at + length raw + more + 2) + length others = omega (arith, ap length is, length-append raw (m ++ others), length-append m others, length_marker more (RST0 + k % 8)) in
    cut_next n k at (at + length raw + more + 2) more (read ++ tail) raw d (others ++ tail) (f ∷ ds) end first (longer raw m others tail read is) refl
    (segments_end n (suc k) j (at + length raw + more + 2) (f ∷ ds) others tail end a (omega (arith, e)) few (subst (λ (i : ℕ). IsEnding n j i tail end) place ends))
