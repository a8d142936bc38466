-- Segments are read as their bytes come.
use Rattle.std.proofs.Common.{◌≡◌, ◌≢◌, ℕ, suc, ◌+◌, ◌-◌, ◌%◌, ◌<◌, ◌≤◌, List, [], ◌∷◌, ◌++◌, length, replicate, map, take, drop, get_or, refl, sym, ap, subst, ◌∙◌, zero, append_assoc, length-append, length-drop, arith}
use Rattle.std.specs.List.{All}
use Rattle.std.proofs.lemmas.List.{length-map, take-append-drop, drop-append-le, take_all, drop_all, map_push, length-take-le}
use Rattle.jr_base.specs.declared.marker.TheConstants.{EOI, PREFIX, RST0}
use Rattle.jr_cut.specs.declared.partial_segments.PartialSegments.{PartialSegments}
use Rattle.jr_cut.specs.declared.scan_end.ScanEnd.{ScanEnd}
use Rattle.jr_cut.specs.declared.scan_end.ScanEnd.TheVariants.{EndOfImage, OtherMarker, OutOfStep, ExtraRestart, EndOfFile}
use Rattle.jr_cut.specs.declared.span.Span.{Span}
use Rattle.jr_cut.specs.Cut.{marker, HasMarker, IsEnding, IsCut, IsStop}
use Rattle.jr_cut.specs.PartialCut.{AreSegments, PartialCutValue, HasCut}
use Rattle.jr_cut.specs.ImageEnd.{HasCutToRest}
use Rattle.jr_cut.specs.PartialSegments.{AreOpen, BeginsWithRestart, HaveAll, HaveRead, cut_of, datas_of}
use Rattle.jr_cut.specs.Spans.{segment_data, IsSpanOf, Unstuffs}
use Rattle.jr_cut.proofs.Cuts.{marker_read, raw_none}
use Rattle.jr_cut.proofs.Segments.{length_marker, segments_end, segments_grow, segments_next}
use Rattle.jr_cut.proofs.Unstuffed.{raw_long, segments_kept}

-- ---- what follows a segment

-- FF bytes and a code
pub record MarkerBegins (xs : List ℕ) (n : ℕ) : Type 0 where
  pub more : ℕ
  pub count : n ≡ suc more
  pub not_0 : get_or xs n 0 ≢ 0
  pub spelled : xs ≡ marker more (get_or xs n 0) ++ drop (n + 1) xs

pub marker_begins : (xs : List ℕ) (n : ℕ) → IsStop xs → take n xs ≡ replicate n PREFIX → n < length xs → get_or xs n 0 ≢ PREFIX → MarkerBegins xs n
marker_begins xs n stop full lt not_ff =
    let e : 0 + n ≡ n = omega arith in
    let m = marker_read xs 0 n stop full (omega (arith, lt)) (subst (λ (i : ℕ). get_or xs i 0 ≢ PREFIX) (sym e) not_ff) in
    record {
      more = m.more;
      count = m.count;
      not_0 = subst (λ (i : ℕ). get_or xs i 0 ≢ 0) e m.not_0;
      spelled = subst (λ (i : ℕ). xs ≡ marker m.more (get_or xs i 0) ++ drop (i + 1) xs) e m.spelled;
    }

pub has_this_marker : (xs : List ℕ) (n : ℕ) → MarkerBegins xs n → HasMarker xs (get_or xs n 0)
has_this_marker xs n m = (m.more, drop (n + 1) xs, m.spelled)

pub is_restart : (xs : List ℕ) (n k : ℕ) → MarkerBegins xs n → get_or xs n 0 ≡ RST0 + k % 8 → BeginsWithRestart k xs (n + 1)
is_restart xs n k m e = record {
  more = m.more;
  long = omega (arith, m.count);
  spelled = m.spelled ∙ ap (λ (c : ℕ). marker m.more c ++ drop (n + 1) xs) e;
}

-- ---- the segments

pub all_of_it : (o : PartialSegments) → HaveAll o o
all_of_it o = record { intervals = refl; bytes = refl; data_few = omega arith; read = λ start bytes h. h }

pub all_along : (a b c : PartialSegments) → HaveAll a b → HaveAll b c → HaveAll a c
all_along a b c p q = record {
  intervals = q.intervals ∙ p.intervals;
  bytes = q.bytes ∙ p.bytes;
  data_few = omega (arith, p.data_few, q.data_few);
  read = λ start bytes h. q.read start bytes (p.read start bytes h);
}

pub restart_within : (k : ℕ) (tail : List ℕ) (count : ℕ) → BeginsWithRestart k tail count → (2 ≤ count) × (count ≤ length tail)
restart_within k tail count b =
    let long : length tail ≡ count + (length tail - count) = omega (arith, ap length b.spelled, length-append (marker b.more (RST0 + k % 8)) (drop count tail), length_marker b.more (RST0 + k % 8), length-drop count tail, b.long) in
    (omega (arith, b.long), omega (arith, long))

-- the open one grows
pub datas_grown : (old new : PartialSegments) (added : List ℕ) → AreOpen old → new.spans ≡ old.spans → new.begin ≡ old.begin → new.bytes.unstuffed ≡ old.bytes.unstuffed ++ added
    → datas_of new ≡ map (segment_data old.bytes.unstuffed) old.spans.items ++ (drop old.begin old.bytes.unstuffed ++ added) ∷ []
datas_grown old new added is es eb eu =
    let unst = old.bytes.unstuffed in
    ap (λ (x : List ℕ). map (segment_data x) new.spans.items ++ drop new.begin x ∷ []) eu
    ∙ ap (λ (s : List Span). map (segment_data (unst ++ added)) s ++ drop new.begin (unst ++ added) ∷ []) (ap (λ v. v.items) es)
    ∙ ap (λ (b : ℕ). map (segment_data (unst ++ added)) old.spans.items ++ drop b (unst ++ added) ∷ []) eb
    ∙ ap (λ (x : List (List ℕ)). x ++ drop old.begin (unst ++ added) ∷ []) (segments_kept unst added old.spans.items is.spans)
    ∙ ap (λ (x : List ℕ). map (segment_data unst) old.spans.items ++ x ∷ []) (drop-append-le old.begin unst added is.begin)

pub have_grown : (old new : PartialSegments) (count : ℕ) → AreOpen old → new.spans ≡ old.spans → new.begin ≡ old.begin → new.intervals ≡ old.intervals → new.at ≡ old.at + count → count ≤ length old.bytes.rest
    → Unstuffs (take count old.bytes.rest) old.bytes.unstuffed new.bytes.unstuffed → new.bytes.rest ≡ drop count old.bytes.rest → HaveAll old new
have_grown old new count is es eb ei ea few u er =
    let unst = old.bytes.unstuffed in
    let ended = map (segment_data unst) old.spans.items in
    let datas = datas_grown old new u.added is es eb u.joins in
    let long = raw_long (take count old.bytes.rest) u.added u.is in
    let taken : length (take count old.bytes.rest) ≡ count = length-take-le count old.bytes.rest few in
    record {
      intervals = ei;
      bytes = omega (arith, ea, ap length er, length-drop count old.bytes.rest, few);
      data_few = omega (arith, ea, ap length u.joins, length-append unst u.added, long, taken);
      read = λ start bytes h. record {
        read = h.read ++ take count old.bytes.rest;
        are = subst (AreSegments 0 (h.read ++ take count old.bytes.rest)) (sym datas) (segments_grow 0 ended (drop old.begin unst) h.read (take count old.bytes.rest) u.added h.are u.is);
        spelled = h.spelled ∙ ap (λ (x : List ℕ). h.read ++ x) (sym (take-append-drop count old.bytes.rest)) ∙ sym (append_assoc h.read (take count old.bytes.rest) (drop count old.bytes.rest)) ∙ ap (λ (x : List ℕ). (h.read ++ take count old.bytes.rest) ++ x) (sym er);
        at = omega (arith, ea, h.at, length-append h.read (take count old.bytes.rest), taken);
      };
    }

pub open_grown : (old new : PartialSegments) (count : ℕ) → AreOpen old → new.spans ≡ old.spans → new.begin ≡ old.begin → new.intervals ≡ old.intervals → new.at ≡ old.at + count → count ≤ length old.bytes.rest
    → Unstuffs (take count old.bytes.rest) old.bytes.unstuffed new.bytes.unstuffed → new.bytes.rest ≡ drop count old.bytes.rest → AreOpen new
open_grown old new count is es eb ei ea few u er =
    let long : length new.bytes.unstuffed ≡ length old.bytes.unstuffed + length u.added = omega (arith, ap length u.joins, length-append old.bytes.unstuffed u.added) in
    record {
      spans = subst (λ (s : List Span). All (IsSpanOf new.bytes.unstuffed) s) (sym (ap (λ v. v.items) es)) (λ k d lt. let w = is.spans k d lt in (w.0, omega (arith, w.1, long)));
      begin = omega (arith, eb, is.begin, long);
      few = omega (arith, is.few, ei, ap (λ v. length v.items) es);
      small = omega (arith, is.small, ei);
      fits = omega (arith, is.fits, ea, ap length er, length-drop count old.bytes.rest, few);
    }

-- the next one begins
pub datas_next : (old new : PartialSegments) → AreOpen old → new.spans.items ≡ old.spans.items ++ (record { start = old.begin; end = length old.bytes.unstuffed }) ∷ [] → new.begin ≡ length old.bytes.unstuffed → new.bytes.unstuffed ≡ old.bytes.unstuffed
    → datas_of new ≡ datas_of old ++ [] ∷ []
datas_next old new is es eb eu =
    let unst = old.bytes.unstuffed in
    let s : Span = record { start = old.begin; end = length unst } in
    let last : segment_data unst s ≡ drop old.begin unst = take_all (length unst - old.begin) (drop old.begin unst) (omega (arith, length-drop old.begin unst)) in
    let none : drop (length unst) unst ≡ [] = drop_all (length unst) unst (omega arith) in
    ap (λ (x : List ℕ). map (segment_data x) new.spans.items ++ drop new.begin x ∷ []) eu
    ∙ ap (λ (ss : List Span). map (segment_data unst) ss ++ drop new.begin unst ∷ []) es
    ∙ ap (λ (b : ℕ). map (segment_data unst) (old.spans.items ++ s ∷ []) ++ drop b unst ∷ []) eb
    ∙ ap (λ (x : List ℕ). map (segment_data unst) (old.spans.items ++ s ∷ []) ++ x ∷ []) none
    ∙ ap (λ (x : List (List ℕ)). x ++ [] ∷ []) (map_push (segment_data unst) old.spans.items s ∙ ap (λ (x : List ℕ). map (segment_data unst) old.spans.items ++ x ∷ []) last)

pub have_next : (old new : PartialSegments) (count : ℕ) → AreOpen old → BeginsWithRestart (length old.spans.items) old.bytes.rest count
    → new.spans.items ≡ old.spans.items ++ (record { start = old.begin; end = length old.bytes.unstuffed }) ∷ [] → new.begin ≡ length old.bytes.unstuffed → new.intervals ≡ old.intervals → new.at ≡ old.at + count
    → new.bytes.unstuffed ≡ old.bytes.unstuffed → new.bytes.rest ≡ drop count old.bytes.rest → HaveAll old new
have_next old new count is m es eb ei ea eu er =
    let unst = old.bytes.unstuffed in
    let rest = old.bytes.rest in
    let k = length old.spans.items in
    let datas = datas_next old new is es eb eu in
    let number : suc k ≡ 0 + length (datas_of old) = omega (arith, length-append (map (segment_data unst) old.spans.items) (drop old.begin unst ∷ []), length-map old.spans.items (segment_data unst)) in
    let within = restart_within k rest count m in
    let c = marker m.more (RST0 + k % 8) in
    record {
      intervals = ei;
      bytes = omega (arith, ea, ap length er, length-drop count rest, within.1);
      data_few = omega (arith, ea, ap length eu);
      read = λ start bytes h. record {
        read = h.read ++ c;
        are = subst (AreSegments 0 (h.read ++ c)) (sym datas) (segments_next 0 k m.more (datas_of old) h.read h.are number);
        spelled = h.spelled ∙ ap (λ (x : List ℕ). h.read ++ x) m.spelled ∙ sym (append_assoc h.read c (drop count rest)) ∙ ap (λ (x : List ℕ). (h.read ++ c) ++ x) (sym er);
        at = omega (arith, ea, h.at, length-append h.read c, length_marker m.more (RST0 + k % 8), m.long);
      };
    }

pub open_next : (old new : PartialSegments) (count : ℕ) → AreOpen old → BeginsWithRestart (length old.spans.items) old.bytes.rest count → length old.spans.items + 1 < old.intervals
    → new.spans.items ≡ old.spans.items ++ (record { start = old.begin; end = length old.bytes.unstuffed }) ∷ [] → new.begin ≡ length old.bytes.unstuffed → new.intervals ≡ old.intervals → new.at ≡ old.at + count
    → new.bytes.unstuffed ≡ old.bytes.unstuffed → new.bytes.rest ≡ drop count old.bytes.rest → AreOpen new
open_next old new count is m few es eb ei ea eu er =
    let s : Span = record { start = old.begin; end = length old.bytes.unstuffed } in
    let within = restart_within (length old.spans.items) old.bytes.rest count m in
    record {
      spans = subst (λ (x : List ℕ). All (IsSpanOf x) new.spans.items) (sym eu) (subst (All (IsSpanOf old.bytes.unstuffed)) (sym es) (push old.spans.items s is.spans (is.begin, omega arith)));
      begin = omega (arith, eb, ap length eu);
      few = omega (arith, few, ei, ap length es, length-append old.spans.items (s ∷ []));
      small = omega (arith, is.small, ei);
      fits = omega (arith, is.fits, ea, ap length er, length-drop count old.bytes.rest, within.1);
    }
  where
    push : (ss : List Span) (s : Span) → All (IsSpanOf old.bytes.unstuffed) ss → IsSpanOf old.bytes.unstuffed s → All (IsSpanOf old.bytes.unstuffed) (ss ++ s ∷ [])
    push [] s w is zero d lt = is
    push [] s w is (suc k) d lt = absurd (omega (arith, lt))
    push (t ∷ ss) s w is zero d lt = w 0 d (omega arith)
    push (t ∷ ss) s w is (suc k) d lt = push ss s (λ j d lt. w (suc j) d (omega (arith, lt))) is k d (omega (arith, lt))

-- nothing is read yet
pub read_none : (start : ℕ) (o : PartialSegments) → o.spans.items ≡ [] → o.begin ≡ 0 → o.at ≡ start → o.bytes.unstuffed ≡ [] → HaveRead start o.bytes.rest o
read_none start o es eb ea eu =
    let datas : datas_of o ≡ [] ∷ []
    = ap (λ (ss : List Span). map (segment_data o.bytes.unstuffed) ss ++ drop o.begin o.bytes.unstuffed ∷ []) es ∙ ap (λ (b : ℕ). drop b o.bytes.unstuffed ∷ []) eb ∙ ap (λ (x : List ℕ). x ∷ []) eu in
    record { read = []; are = subst (AreSegments 0 []) (sym datas) raw_none; spelled = refl; at = omega (arith, ea) }

-- ---- the cut

pub count_of : (o : PartialSegments) → length (datas_of o) ≡ length o.spans.items + 1
count_of o = omega (arith, length-append (map (segment_data o.bytes.unstuffed) o.spans.items) (drop o.begin o.bytes.unstuffed ∷ []), length-map o.spans.items (segment_data o.bytes.unstuffed))

pub cut_made : (start : ℕ) (bytes : List ℕ) (o : PartialSegments) (end : ScanEnd) → AreOpen o → HaveRead start bytes o → IsEnding o.intervals (length o.spans.items) o.at o.bytes.rest end → HasCut start bytes (cut_of o end)
cut_made start bytes o end is h ends =
    let k : length o.spans.items ≡ length (datas_of o) - 1 = omega (arith, count_of o) in
    record {
      read = h.read;
      tail = o.bytes.rest;
      are = h.are;
      count = omega (arith, count_of o, is.few);
      spelled = h.spelled;
      ends = subst (λ (i : ℕ). IsEnding o.intervals i (start + length h.read) o.bytes.rest end) k (subst (λ (i : ℕ). IsEnding o.intervals (length o.spans.items) i o.bytes.rest end) h.at ends);
      few = omega (arith, h.at, ap length h.spelled, length-append h.read o.bytes.rest);
      unread = λ e. (h.at, refl);
    }

-- and what is not read is what follows the segments
pub rest_made : (start : ℕ) (bytes : List ℕ) (o : PartialSegments) (end : ScanEnd) → AreOpen o → HaveRead start bytes o → IsEnding o.intervals (length o.spans.items) o.at o.bytes.rest end → HasCutToRest start bytes (cut_of o end)
unfolding cut_made
rest_made start bytes o end is h ends = record {
  cut = cut_made start bytes o end is h ends;
  rest = refl;
  all = omega (arith, h.at, ap length h.spelled, length-append h.read o.bytes.rest);
}

pub read_again : (start : ℕ) (bytes : List ℕ) (o : PartialSegments) (end : ScanEnd) → end ≡ EndOfFile → HasCut start bytes (cut_of o end) → HaveRead start bytes o
read_again start bytes o end e h =
    let u = h.unread e in
    record { read = h.read; are = h.are; spelled = h.spelled ∙ ap (λ (x : List ℕ). h.read ++ x) (sym u.1); at = u.0 }

-- these bytes are cut into these segments
pub has_cut_is_cut : (start : ℕ) (bytes : List ℕ) (c : PartialCutValue) → HasCut start bytes c → IsCut c.intervals start bytes c.segments c.ended
has_cut_is_cut start bytes c h =
    let j : suc (length c.segments - 1) ≡ 0 + length c.segments = omega (arith, some c.segments h.read h.are) in
    subst (λ (x : List ℕ). IsCut c.intervals start x c.segments c.ended) (sym h.spelled) (segments_end c.intervals 0 (length c.segments - 1) start c.segments h.read h.tail c.ended h.are j (omega (arith, h.count, j)) h.ends)
  where
    some : (ds : List (List ℕ)) (read : List ℕ) → AreSegments 0 read ds → 0 < length ds
    some [] read a = absurd a
    some (d ∷ ds) read a = omega arith

-- ---- a marker ends the scan

marker_more : (tail more : List ℕ) (code : ℕ) → HasMarker tail code → HasMarker (tail ++ more) code
marker_more tail more code h = (h.0, h.1 ++ more, ap (λ (t : List ℕ). t ++ more) h.2 ∙ append_assoc (marker h.0 code) h.1 more)

pub ending_more : (n k at : ℕ) (tail more : List ℕ) (end : ScanEnd) → end ≢ EndOfFile → IsEnding n k at tail end → IsEnding n k at (tail ++ more) end
ending_more n k at tail more EndOfFile not_file h = absurd (not_file refl)
ending_more n k at tail more EndOfImage not_file h = marker_more tail more EOI h
ending_more n k at tail more (ExtraRestart o) not_file h = (h.0, h.1, marker_more tail more (RST0 + h.0) h.2, h.3, h.4)
ending_more n k at tail more (OutOfStep f x o) not_file h = (h.0, marker_more tail more (RST0 + f) h.1, h.2, h.3, h.4, h.5)
ending_more n k at tail more (OtherMarker c o) not_file h = (h.0, h.1, marker_more tail more c h.2, h.3, h.4)

pub cut_ended : (start : ℕ) (bytes more : List ℕ) (c : PartialCutValue) → c.ended ≢ EndOfFile → HasCut start bytes c → HasCut start (bytes ++ more) c
cut_ended start bytes more c not_file h = record {
  read = h.read;
  tail = h.tail ++ more;
  are = h.are;
  count = h.count;
  spelled = ap (λ (x : List ℕ). x ++ more) h.spelled ∙ append_assoc h.read h.tail more;
  ends = ending_more c.intervals (length c.segments - 1) (start + length h.read) h.tail more c.ended not_file h.ends;
  few = omega (arith, h.few, length-append bytes more);
  unread = λ e. absurd (not_file e);
}

pub few_datas : (o : PartialSegments) → AreOpen o → length (datas_of o) ≤ o.intervals
few_datas o is = omega (arith, is.few, count_of o)
