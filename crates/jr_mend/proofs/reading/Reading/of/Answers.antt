use Rattle.std.proofs.Common.{◌≡◌, ◌+◌, ◌-◌, ◌<◌, ◌++◌, ◌∷◌, [], ℕ, List, take, drop, refl, ap, subst, ◌∙◌, arith}
use Rattle.jr_cut.proofs.Cuts.{rest_is}
use Rattle.jr_mend.specs.Markers.{scan_markers, scan_bytes}
use Rattle.jr_mend.specs.Reading.{IsOutlook}
use Rattle.jr_mend.specs.Splice.{joined_intervals}
use Rattle.jr_mend.proofs.Readings.{Segment, read_first, segment, slice_is}
use Rattle.jr_mend.proofs.reading.Reading.of.Goals as goal

size_is : (start len : ℕ) → start + len - start ≡ len
size_is start len = omega arith

pub returns : goal.returns
returns c =
    let file = c.args.file.now in
    let h = c.args.head.now in
    let at = h.scan_at in
    let len = c.segment_length.result in
    let start : c.scan_at-start.result ≡ at = c.scan_at-start.ensures.value in
    let stated = subst (λ (a : ℕ). Segment file a len) start (segment file c.scan_at-start.result len (omega (arith, c.requires.scan_at, start)) c.segment_length.ensures.within c.segment_length.ensures.data c.segment_length.ensures.stop) in
    let front = take at file in
    let raw = take len (drop at file) in
    let some = subst (λ (n : ℕ). 0 < n) c.intervals-some.ensures.value c.intervals-some.ensures.some in
    let slice = slice_is file c.scan_at-start.result (c.scan_at-start.result + len) len refl ∙ ap (λ (a : ℕ). take len (drop a file)) start in
    let before : c.reserve.new.self.items ≡ front ++ joined_intervals 0 [] = c.reserve.ensures.items ∙ c.in_ok-bytes.ensures.joined_intervals in
    let written : c.write_interval.new.bytes.items ≡ front ++ joined_intervals 0 (raw ∷ []) = grind (arith, c.in_ok-write_interval.ensures.joined_intervals front [] refl before, slice) in
    let since = size_is c.scan_at-start.result len in
    let rest = rest_is file c.scan_at-start.result ∙ ap (λ (a : ℕ). drop a file) start in
    let size = subst (λ (x : List ℕ). c.of.result.size ≡ scan_bytes (scan_markers c.intervals.result x)) rest c.of.ensures.size in
    let sized = subst (λ (n : ℕ). c.of.result.size ≡ scan_bytes (scan_markers n (drop at file))) c.intervals.ensures.value size in
    let is = subst (λ (x : List ℕ). IsOutlook c.intervals.result (scan_markers c.intervals.result x) c.of.result) rest c.of.ensures.is in
    let known = subst (λ (n : ℕ). IsOutlook n (scan_markers n (drop at file)) c.of.result) c.intervals.ensures.value is in
    read_first file h _ len stated some refl (ap (λ a. a + len) start) c.new.ensures.items since sized known written
