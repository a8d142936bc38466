-- A file is read marker by marker.
use Rattle.std.proofs.Common.{◌≡◌, ◌≢◌, ℕ, suc, ◌+◌, ◌-◌, ◌<◌, ◌≤◌, List, [], ◌∷◌, ◌++◌, length, take, drop, sym, ap, subst, ◌∙◌, append_assoc, length-append, length-drop, Option, Some, None, arith}
use Rattle.std.proofs.lemmas.List.{append-nil, drop-drop}
use Rattle.jr_base.specs.declared.limits.TheConstants.{MAX_FILE_BYTES}
use Rattle.jr_base.specs.declared.marker.TheConstants.{EOI}
use Rattle.jr_cut.specs.declared.scan_end.ScanEnd.{ScanEnd}
use Rattle.jr_cut.specs.Cut.{IsRaw, IsStop, marker}
use Rattle.jr_cut.proofs.Cuts.{rest_is}
use Rattle.jr_cut.proofs.Segments.{length_marker}
use Rattle.jr_cut.proofs.Slices.{length_front, split_at}
use Rattle.jr_head.specs.HeadValue.{HeadValue}
use Rattle.jr_head.specs.Heads.{HeadOf}
use Rattle.jr_head.proofs.HeadStays.{header_stays}
use Rattle.jr_scan.specs.ScanValue.{intervals_of}
use Rattle.jr_cut.specs.declared.breaks.Break.{Break}
use Rattle.jr_mend.specs.declared.following.FoundMarker.{FoundMarker}
use Rattle.jr_mend.specs.declared.reading.Reading.{Reading}
use Rattle.jr_mend.specs.Reading.{Becomes, HasResyncedTo, IsOutlook, IsTooLong, Meets}
use Rattle.jr_mend.specs.declared.markers.ScanMarker.{ScanMarker}
use Rattle.jr_mend.specs.Markers.{as_read, is_restart, markers_in, scan_bytes, scan_markers}
use Rattle.jr_mend.specs.Resync.{EndsResync, IsResync, Part, PartsFrom, Resync, break_at, new_segments, number_after, part_bytes, since_after}
use Rattle.jr_mend.specs.Splice.{coded_intervals, joined_intervals, spliced}
use Rattle.jr_mend.proofs.Resyncs.{count_after, few_after, new_spelled, parts_last, parts_next, with_part, zip_append}
use Rattle.jr_mend.proofs.MarkersLaw.{outlook_rebased, passed_on, raw_on}
use Rattle.jr_mend.proofs.Splices.{scan_is}

-- ---- the bytes up to a marker

-- as they are read from a slice
pub record Segment (file : List ℕ) (at len : ℕ) : Type 0 where
  pub found : List ℕ
  pub within : at + len ≤ length file
  pub raw : IsRaw (take len (drop at file)) found
  pub stop : IsStop (drop (at + len) file)

pub segment : (file : List ℕ) (at len : ℕ) → at ≤ length file → len ≤ length (take (length file - at) (drop at file)) → (found : List ℕ) × IsRaw (take len (take (length file - at) (drop at file))) found → IsStop (drop len (take (length file - at) (drop at file))) → Segment file at len
segment file at len there within data' stop =
    let rest = rest_is file at in
    record {
      found = data'.0;
      within = omega (arith, within, ap length rest, length-drop at file, there);
      raw = subst (λ (x : List ℕ). IsRaw (take len x) data'.0) rest data'.1;
      stop = subst IsStop (drop-drop len at file) (subst (λ (x : List ℕ). IsStop (drop len x)) rest stop);
    }

pub slice_is : (file : List ℕ) (at end len : ℕ) → end ≡ at + len → take (end - at) (drop at file) ≡ take len (drop at file)
slice_is file at end len e =
    let size : end - at ≡ len = omega (arith, e) in
    ap (λ (k : ℕ). take k (drop at file)) size

-- ---- the first interval

module _ (file : List ℕ) (h : HeadValue) (w : Reading) (len : ℕ) (s : Segment file h.scan_at len) where
  abbrev first : List ℕ
  first = take len (drop h.scan_at file)

  abbrev whole : ℕ
  whole = scan_bytes (scan_markers (intervals_of h) (drop h.scan_at file))

  on_first : 0 < intervals_of h → w.k ≡ 0 → w.at ≡ h.scan_at + len → w.breaks.items ≡ [] → w.since ≡ len → w.outlook.size ≡ whole → (r : Resync) → PartsFrom (intervals_of h) w.outlook.size w.since w.k w.at (drop w.at file) r
      → IsResync (intervals_of h) h.scan_at (drop h.scan_at file) (record { raws = first ∷ r.raws; datas = s.found ∷ r.datas; breaks = w.breaks.items ++ r.breaks; end = r.end })
  on_first some number at none since size r p =
      let n = intervals_of h in
      let rest = drop w.at file in
      let long : w.at ≡ h.scan_at + length first = omega (arith, at, length_front file h.scan_at len s.within) in
      let since : w.since ≡ length first = since ∙ sym (length_front file h.scan_at len s.within) in
      let sized = subst (λ (z : ℕ). PartsFrom n z w.since w.k w.at rest r) size p in
      let counted = subst (λ (z : ℕ). PartsFrom n whole z w.k w.at rest r) since sized in
      let numbered = subst (λ (k : ℕ). PartsFrom n whole (length first) k w.at rest r) number counted in
      record {
        some = some;
        raw = first;
        first = s.found;
        rest = rest;
        after = r;
        is_raw = s.raw;
        spelled = split_at file h.scan_at len ∙ ap (λ (k : ℕ). first ++ drop k file) (sym at);
        parts = subst (λ (o : ℕ). PartsFrom n whole (length first) 0 o rest r) long numbered;
        is = ap (λ (b : List Break). record { raws = first ∷ r.raws; datas = s.found ∷ r.datas; breaks = b ++ r.breaks; end = r.end }) none;
      }

  -- what is known of the markers of the scan is known of those after its first segment
  ahead : w.at ≡ h.scan_at + len → IsOutlook (intervals_of h) (scan_markers (intervals_of h) (drop h.scan_at file)) w.outlook → IsOutlook (intervals_of h) (scan_markers (intervals_of h) (drop w.at file)) w.outlook
  ahead at is =
      let here : scan_markers (intervals_of h) (drop h.scan_at file) ≡ as_read (intervals_of h) (markers_in (0 + length first) (drop w.at file)) =
      ap (scan_markers (intervals_of h)) (split_at file h.scan_at len) ∙ ap (as_read (intervals_of h)) (raw_on 0 first s.found (drop (h.scan_at + len) file) s.raw) ∙ ap (λ (k : ℕ). as_read (intervals_of h) (markers_in (0 + length first) (drop k file))) (sym at) in
      outlook_rebased (intervals_of h) (0 + length first) (drop w.at file) w.outlook (subst (λ (ms : List ScanMarker). IsOutlook (intervals_of h) ms w.outlook) here is)

  pub read_first : 0 < intervals_of h → w.k ≡ 0 → w.at ≡ h.scan_at + len → w.breaks.items ≡ [] → w.since ≡ len → w.outlook.size ≡ whole → IsOutlook (intervals_of h) (scan_markers (intervals_of h) (drop h.scan_at file)) w.outlook → w.bytes.items ≡ take h.scan_at file ++ joined_intervals 0 (first ∷ []) → HasResyncedTo file h w
  read_first some number at none since size is written = record {
    raws = first ∷ [];
    datas = s.found ∷ [];
    count = omega (arith, number);
    few = omega (arith, number, some);
    each = (s.raw, tt);
    near = omega (arith, since, at);
    size = size;
    outlook = ahead at is;
    within = omega (arith, at, s.within);
    stop = subst (λ (k : ℕ). IsStop (drop k file)) (sym at) s.stop;
    written = written;
    on = on_first some number at none since size;
  }

-- ---- a marker, and the bytes after it

near_after : (since : ℕ) (a : Option ℕ) (low at part : ℕ) → low + since ≤ at → low + since_after since a part ≤ at + part
near_after since None low at part near = omega (arith, near)
near_after since (Some d) low at part near = omega (arith, near)

-- the marker and the bytes after it are read, and these are written if they are a segment's
pub record Takes (file : List ℕ) (old new : Reading) (m : FoundMarker) : Type 0 where
  pub len : ℕ
  pub data' : List ℕ
  pub raw : IsRaw (take len (drop (old.at + m.length) file)) data'
  pub within : old.at + m.length + len ≤ length file
  pub at : new.at ≡ old.at + m.length + len
  pub stop : IsStop (drop new.at file)
  pub number : new.k ≡ number_after old.k m.missing
  pub since : new.since ≡ since_after old.since m.missing (m.length + len)
  pub size : new.outlook.size ≡ old.outlook.size
  pub outlook : (n : ℕ) (x : ScanMarker) (ms : List ScanMarker) → is_restart x.code ≡ is_restart m.code → x.code ≢ EOI → IsOutlook n (x ∷ ms) old.outlook → IsOutlook n ms new.outlook
  pub breaks : new.breaks.items ≡ old.breaks.items ++ break_at old.at old.k m.code m.missing
  pub written : (front : List ℕ) (raws : List (List ℕ)) → length raws ≡ suc old.k → old.bytes.items ≡ front ++ joined_intervals 0 raws → new.bytes.items ≡ front ++ joined_intervals 0 (raws ++ new_segments m.missing (take len (drop (old.at + m.length) file)))

pub takes : (file : List ℕ) (old mid v : Reading) (m : FoundMarker) (len : ℕ) (raw : List ℕ) → Segment file (mid.at + m.length) len → mid.breaks.items ≡ old.breaks.items ++ break_at old.at old.k m.code m.missing → mid.bytes ≡ old.bytes → mid.k ≡ old.k → mid.since ≡ old.since → mid.outlook ≡ old.outlook → mid.at ≡ old.at
    → v.at ≡ mid.at + m.length + len → v.k ≡ number_after mid.k m.missing → v.since ≡ since_after mid.since m.missing (m.length + len) → v.outlook.size ≡ mid.outlook.size
    → ((n : ℕ) (x : ScanMarker) (ms : List ScanMarker) → is_restart x.code ≡ is_restart m.code → x.code ≢ EOI → IsOutlook n (x ∷ ms) mid.outlook → IsOutlook n ms v.outlook) → v.breaks ≡ mid.breaks
    → ((front : List ℕ) (raws : List (List ℕ)) → length raws ≡ suc mid.k → mid.bytes.items ≡ front ++ joined_intervals 0 raws → v.bytes.items ≡ front ++ joined_intervals 0 (raws ++ new_segments m.missing raw))
    → raw ≡ take len (drop (mid.at + m.length) file) → Takes file old v m
takes file old mid v m len raw s noted bytes number since outlook at place next counted size ahead breaks written slice =
    let start : mid.at + m.length ≡ old.at + m.length = ap (λ a. a + m.length) at in
    let stated = subst (λ (a : ℕ). Segment file a len) start s in
    let end : v.at ≡ old.at + m.length + len = omega (arith, place, at) in
    record {
      len = len;
      data' = stated.found;
      raw = stated.raw;
      within = stated.within;
      at = end;
      stop = subst (λ (k : ℕ). IsStop (drop k file)) (sym end) stated.stop;
      number = next ∙ ap (λ (k : ℕ). number_after k m.missing) number;
      since = counted ∙ ap (λ (q : ℕ). since_after q m.missing (m.length + len)) since;
      size = size ∙ ap (λ o. o.size) outlook;
      outlook = λ n x ms code on is. ahead n x ms code on (subst (IsOutlook n (x ∷ ms)) (sym outlook) is);
      breaks = ap (λ b. b.items) breaks ∙ noted;
      written = λ front raws count e.
          written front raws (count ∙ ap suc (sym number)) (ap (λ b. b.items) bytes ∙ e)
          ∙ ap (λ (x : List ℕ). front ++ joined_intervals 0 (raws ++ new_segments m.missing x)) (slice ∙ ap (λ (a : ℕ). take len (drop a file)) start);
    }

module _ (file : List ℕ) (h : HeadValue) (w v : Reading) (m : FoundMarker) (has : HasResyncedTo file h w) (meets : Meets (intervals_of h) w.outlook.size w.since w.k (drop w.at file) m) (t : Takes file w v m) where
  abbrev raw : List ℕ
  raw = take t.len (drop (w.at + m.length) file)

  abbrev part : Part
  part = record { more = meets.more; code = m.code; missing = m.missing; raw = raw; bytes = t.data' }

  spelled : drop w.at file ≡ part_bytes part ++ drop v.at file
  spelled =
      let mark = marker meets.more m.code in
      meets.spelled ∙ ap (λ (x : List ℕ). mark ++ x) (drop-drop m.length w.at file ∙ split_at file (w.at + m.length) t.len ∙ ap (λ (k : ℕ). raw ++ drop k file) (sym t.at))
      ∙ sym (append_assoc mark raw (drop v.at file))

  place : v.at ≡ w.at + length (part_bytes part)
  place = omega (arith, t.at, meets.long, length-append (marker meets.more m.code) raw, length_marker meets.more m.code, length_front file (w.at + m.length) t.len t.within)

  since : v.since ≡ since_after w.since m.missing (length (part_bytes part))
  since =
      let whole : m.length + t.len ≡ length (part_bytes part) = omega (arith, place, t.at) in
      t.since ∙ ap (λ (n : ℕ). since_after w.since m.missing n) whole

  next : (r : Resync) → PartsFrom (intervals_of h) v.outlook.size v.since v.k v.at (drop v.at file) r → PartsFrom (intervals_of h) w.outlook.size w.since w.k w.at (drop w.at file) (with_part w.at w.k part r)
  next r p =
      let n = intervals_of h in
      let after = since_after w.since m.missing (length (part_bytes part)) in
      let sized = subst (λ (z : ℕ). PartsFrom n z v.since v.k v.at (drop v.at file) r) t.size p in
      let counted = subst (λ (z : ℕ). PartsFrom n w.outlook.size z v.k v.at (drop v.at file) r) since sized in
      let numbered = subst (λ (k : ℕ). PartsFrom n w.outlook.size after k v.at (drop v.at file) r) t.number counted in
      parts_next n w.outlook.size w.since w.k w.at part (drop w.at file) (drop v.at file) r meets.means t.raw spelled
      (subst (λ (o : ℕ). PartsFrom n w.outlook.size after (number_after w.k m.missing) o (drop v.at file) r) place numbered)

  -- what is known of the markers after this one
  ahead_after : IsOutlook (intervals_of h) (scan_markers (intervals_of h) (drop v.at file)) v.outlook
  ahead_after =
      let n = intervals_of h in
      let rest = raw ++ drop v.at file in
      let mark = marker meets.more m.code in
      let marked : drop w.at file ≡ mark ++ rest = spelled ∙ append_assoc mark raw (drop v.at file) in
      let p = passed_on n w.outlook.size w.since w.k meets.more m.code m.missing (drop w.at file) rest marked meets.means in
      let after : scan_markers (intervals_of h) rest ≡ as_read (intervals_of h) (markers_in (0 + length raw) (drop v.at file)) = ap (as_read (intervals_of h)) (raw_on 0 raw t.data' (drop v.at file) t.raw) in
      let here = p.first ∙ ap (λ (ms : List ScanMarker). p.m ∷ ms) after in
      let is = subst (λ (ms : List ScanMarker). IsOutlook n ms w.outlook) here has.outlook in
      outlook_rebased n (0 + length raw) (drop v.at file) v.outlook (t.outlook n p.m (as_read (intervals_of h) (markers_in (0 + length raw) (drop v.at file))) p.restart p.goes is)

  joins : (r : Resync) → IsResync (intervals_of h) h.scan_at (drop h.scan_at file) (record { raws = has.raws ++ (new_segments m.missing raw ++ r.raws); datas = has.datas ++ (new_segments m.missing t.data' ++ r.datas); breaks = w.breaks.items ++ (break_at w.at w.k m.code m.missing ++ r.breaks); end = r.end })
      → IsResync (intervals_of h) h.scan_at (drop h.scan_at file) (record { raws = (has.raws ++ new_segments m.missing raw) ++ r.raws; datas = (has.datas ++ new_segments m.missing t.data') ++ r.datas; breaks = v.breaks.items ++ r.breaks; end = r.end })
  joins r is =
      let a = append_assoc has.raws (new_segments m.missing raw) r.raws in
      let b = append_assoc has.datas (new_segments m.missing t.data') r.datas in
      let c = ap (λ (x : List Break). x ++ r.breaks) t.breaks ∙ append_assoc w.breaks.items (break_at w.at w.k m.code m.missing) r.breaks in
      let old : Resync = record { raws = has.raws ++ (new_segments m.missing raw ++ r.raws); datas = has.datas ++ (new_segments m.missing t.data' ++ r.datas); breaks = w.breaks.items ++ (break_at w.at w.k m.code m.missing ++ r.breaks); end = r.end } in
      let new : Resync = record { raws = (has.raws ++ new_segments m.missing raw) ++ r.raws; datas = (has.datas ++ new_segments m.missing t.data') ++ r.datas; breaks = v.breaks.items ++ r.breaks; end = r.end } in
      let same : old ≡ new = cc (a, b, c) in
      subst (IsResync (intervals_of h) h.scan_at (drop h.scan_at file)) same is

  near : h.scan_at + v.since ≤ v.at
  near = omega (arith, near_after w.since m.missing h.scan_at w.at (m.length + t.len) has.near, t.since, t.at)

  pub read_more : HasResyncedTo file h v
  read_more = record {
    raws = has.raws ++ new_segments m.missing raw;
    datas = has.datas ++ new_segments m.missing t.data';
    count = count_after w.k m.missing has.raws raw has.count ∙ ap suc (sym t.number);
    few = omega (arith, t.number, few_after (intervals_of h) w.outlook.size w.since w.k (drop w.at file) m.code m.missing meets.means);
    each = zip_append has.raws has.datas (new_segments m.missing raw) (new_segments m.missing t.data') has.each (new_spelled m.missing raw t.data' t.raw);
    near = near;
    size = t.size ∙ has.size;
    outlook = ahead_after;
    within = omega (arith, t.at, t.within);
    stop = t.stop;
    written = t.written (take h.scan_at file) has.raws has.count has.written;
    on = λ r p. joins r (has.on (with_part w.at w.k part r) (next r p));
  }

-- ---- the end

module _ (file : List ℕ) (h : HeadValue) (w : Reading) (end : ScanEnd) (has : HasResyncedTo file h w) (ends : EndsResync (intervals_of h) w.k w.at (drop w.at file) end) where
  abbrev pub segments_read : Resync
  segments_read = record { raws = has.raws; datas = has.datas; breaks = w.breaks.items; end = end }

  pub is_resync : IsResync (intervals_of h) h.scan_at (drop h.scan_at file) segments_read
  is_resync =
      let a = append-nil has.raws in
      let b = append-nil has.datas in
      let c = append-nil w.breaks.items in
      let old : Resync = record { raws = has.raws ++ []; datas = has.datas ++ []; breaks = w.breaks.items ++ []; end = end } in
      let same : old ≡ segments_read = cc (a, b, c) in
      subst (IsResync (intervals_of h) h.scan_at (drop h.scan_at file)) same (has.on (record { raws = []; datas = []; breaks = []; end = end }) (parts_last (intervals_of h) w.outlook.size w.since w.k w.at (drop w.at file) end ends))

  pub becomes : (new : List ℕ) (breaks : List Break) (ended : ScanEnd) → HeadOf file h → new ≡ spliced file h has.raws → length new ≤ MAX_FILE_BYTES → breaks ≡ w.breaks.items → ended ≡ end → Becomes file h new breaks ended
  becomes new breaks ended head bytes small listed ends_so =
      record {
        segments = segments_read;
        is = is_resync;
        bytes = bytes;
        breaks = listed;
        ended = ends_so;
        head = subst (λ (x : List ℕ). HeadOf x h) (sym bytes) (header_stays file (coded_intervals has.raws) h head (omega (arith, small, ap length bytes)));
        scan = subst (λ (x : List ℕ). Rattle.jr_scan.specs.ScanValue.IsScanOf x (Rattle.jr_scan.specs.ScanValue.scan_of_segments h has.datas Rattle.jr_cut.specs.declared.scan_end.ScanEnd.TheVariants.EndOfImage)) (sym bytes)
            (scan_is file h has.raws has.datas head has.each (omega (arith, has.count)) (omega (arith, has.count, has.few)));
      }

  pub is_too_long : (bytes : List ℕ) → bytes ≡ spliced file h has.raws → MAX_FILE_BYTES < length bytes → IsTooLong file h
  is_too_long bytes is long = record { segments = segments_read; is = is_resync; long = omega (arith, long, ap length is) }
