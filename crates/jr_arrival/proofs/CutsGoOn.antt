-- More bytes keep what is cut.
use Rattle.std.proofs.Common.{◌≡◌, ◌≢◌, ℕ, suc, ◌+◌, ◌%◌, ◌<◌, List, [], ◌∷◌, ◌++◌, length, refl, sym, ap, subst, ◌∙◌, append_assoc, arith}
use Rattle.std.specs.List.{AllByRecursion}
use Rattle.jr_base.specs.declared.marker.TheConstants.{RST0}
use Rattle.jr_cut.specs.declared.scan_end.ScanEnd.{ScanEnd}
use Rattle.jr_cut.specs.declared.scan_end.ScanEnd.TheVariants.{EndOfFile}
use Rattle.jr_cut.specs.Cut.{IsRaw, CodedSegment, with_markers, HasMarker, IsEnding, CutFrom, Cutting}
use Rattle.jr_cut.proofs.CutLaw.{ending_not_next, ending_stop, markers_stop, one_cut}
use Rattle.jr_cut.proofs.PartialSegments.{ending_more}
use Rattle.jr_cut.proofs.Endings.{after_marker, bytes_of, next_marker, next_stop}
use Rattle.jr_cut.proofs.Spellings.{begins_stopped, one_stop}
use Rattle.jr_arrival.specs.LongerFile.{GrowsTo}

goes_on_first : (first first' : List ℕ) (ds es : List (List ℕ)) → first ≡ first' → GrowsTo ds es → GrowsTo (first ∷ ds) (first' ∷ es)
goes_on_first first first' ds es e g = record {
  ended = first ∷ g.ended;
  last = g.last;
  more = g.more;
  others = g.others;
  is = ap (λ (l : List (List ℕ)). first ∷ l) g.is;
  longer_is = ap (λ (x : List ℕ). x ∷ es) (sym e) ∙ ap (λ (l : List (List ℕ)). first ∷ l) g.longer_is;
}

segments_go_on : (n k i j o : ℕ) (raw raw' first first' more tail' : List ℕ) (ps qs : List CodedSegment) (end : ScanEnd)
    → IsRaw raw first → IsRaw raw' first' → AllByRecursion (λ p. IsRaw p.raw p.bytes) ps → AllByRecursion (λ p. IsRaw p.raw p.bytes) qs
    → j ≡ k + length ps → i ≡ k + length qs → j < n → IsEnding n i o tail' end
    → raw ++ (with_markers k ps ++ more) ≡ raw' ++ (with_markers k qs ++ tail') → GrowsTo (first ∷ bytes_of ps) (first' ∷ bytes_of qs)
segments_go_on n k i j o raw raw' first first' more tail' [] qs end hr hr' hp hq ej ei lj h e =
    let d = begins_stopped raw first raw' first' more (with_markers k qs ++ tail') hr hr' e (markers_stop n i k o qs tail' end h) in
    record { ended = []; last = first; more = d.added; others = bytes_of qs; is = refl; longer_is = ap (λ (x : List ℕ). x ∷ bytes_of qs) d.is }
segments_go_on n k i j o raw raw' first first' more tail' (p ∷ ps) [] end hr hr' hp hq ej ei lj h e =
    let s = one_stop raw first raw' first' (with_markers k (p ∷ ps) ++ more) tail' hr hr' e (next_stop k p ps more) (ending_stop n i o tail' end h) in
    let ik : i ≡ k = omega (arith, ei) in
    absurd (ending_not_next n k o tail' end (subst (λ (x : ℕ). IsEnding n x o tail' end) ik h) (subst (λ (t : List ℕ). HasMarker t (RST0 + k % 8)) s.1 (next_marker k p ps more)) (omega (arith, ej, lj)))
segments_go_on n k i j o raw raw' first first' more tail' (p ∷ ps) (q ∷ qs) end hr hr' hp hq ej ei lj h e =
    let s = one_stop raw first raw' first' (with_markers k (p ∷ ps) ++ more) (with_markers k (q ∷ qs) ++ tail') hr hr' e (next_stop k p ps more) (next_stop k q qs tail') in
    let m = after_marker k p.more ((p.raw ++ with_markers (suc k) ps) ++ more) q qs tail' (sym (next_marker k p ps more).2 ∙ s.1) in
    goes_on_first first first' (bytes_of (p ∷ ps)) (bytes_of (q ∷ qs)) (sym s.0)
    (segments_go_on n (suc k) i j o p.raw q.raw p.bytes q.bytes more tail' ps qs end hp.0 hq.0 hp.1 hq.1 (omega (arith, ej)) (omega (arith, ei)) lj h (sym (append_assoc p.raw (with_markers (suc k) ps) more) ∙ m.1))

goes_on : (n at : ℕ) (bytes more : List ℕ) (a : Cutting n at bytes) (b : Cutting n at (bytes ++ more)) → GrowsTo a.datas b.datas
goes_on n at bytes more a b =
    let c = a.is in
    let d = b.is in
    let left : c.raw ++ (with_markers 0 c.segments ++ (c.tail ++ more)) ≡ bytes ++ more
    = sym (ap (λ (x : List ℕ). x ++ more) c.spelled ∙ append_assoc c.raw (with_markers 0 c.segments ++ c.tail) more ∙ ap (λ (x : List ℕ). c.raw ++ x) (append_assoc (with_markers 0 c.segments) c.tail more)) in
    let g = segments_go_on n 0 (0 + length d.segments) (0 + length c.segments) (at + length (d.raw ++ with_markers 0 d.segments)) c.raw d.raw c.first d.first (c.tail ++ more) d.tail c.segments d.segments b.end
    c.is_raw d.is_raw c.each d.each refl refl c.few d.ends (left ∙ d.spelled) in
    subst (λ (l : List (List ℕ)). GrowsTo l b.datas) (sym c.means) (subst (λ (l : List (List ℕ)). GrowsTo (c.first ∷ bytes_of c.segments) l) (sym d.means) g)

-- ---- a marker ends the scan

cut_more : (n k at : ℕ) (bytes more : List ℕ) (datas : List (List ℕ)) (end : ScanEnd) → end ≢ EndOfFile → CutFrom n k at bytes datas end → CutFrom n k at (bytes ++ more) datas end
cut_more n k at bytes more datas end not_file c = record {
  raw = c.raw;
  first = c.first;
  segments = c.segments;
  tail = c.tail ++ more;
  is_raw = c.is_raw;
  each = c.each;
  few = c.few;
  spelled = ap (λ (x : List ℕ). x ++ more) c.spelled ∙ append_assoc c.raw (with_markers k c.segments ++ c.tail) more ∙ ap (λ (x : List ℕ). c.raw ++ x) (append_assoc (with_markers k c.segments) c.tail more);
  means = c.means;
  ends = ending_more n (k + length c.segments) (at + length (c.raw ++ with_markers k c.segments)) c.tail more end not_file c.ends;
}

-- more bytes keep what is cut, and all of it if a marker has ended the scan
pub cut_is_final : (n at : ℕ) (bytes more : List ℕ) (a : Cutting n at bytes) (b : Cutting n at (bytes ++ more)) → GrowsTo a.datas b.datas × (a.end ≢ EndOfFile → (b.datas ≡ a.datas) × (b.end ≡ a.end))
cut_is_final n at bytes more a b = (
  goes_on n at bytes more a b,
  λ not_file. one_cut n at (bytes ++ more) b.datas a.datas b.end a.end b.is (cut_more n 0 at bytes more a.datas a.end not_file a.is),
)
