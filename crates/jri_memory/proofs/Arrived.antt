-- What bytes of a file make final in each file that begins with them.
use Rattle.std.proofs.Common.{arith, refl, subst, sym, ap, ◌∙◌, ◌≡◌, ◌≢◌, ◌⊎◌, inl, inr, ℕ, List, [], ◌++◌, length, length-append, length-drop, take, drop, replicate, get_or, min, ◌-◌, ◌+◌, ◌%◌, ◌<◌, ◌≤◌, Bool, Option, Some, None, append_assoc}
use Rattle.std.specs.Prelude.{true, false}
use Rattle.std.specs.List.{All}
use Rattle.std.proofs.lemmas.List.{append-nil, drop-append-le, drop_all}
use Rattle.jr_base.specs.declared.limits.TheConstants.{MAX_FILE_BYTES}
use Rattle.jr_base.specs.declared.marker.TheConstants.{PREFIX, RST0}
use Rattle.jr_cut.specs.declared.file_segments.CodedSpan.{CodedSpan}
use Rattle.jr_cut.specs.declared.file_segments.FileSegment.{FileSegment}
use Rattle.jr_cut.specs.declared.scan_end.ScanEnd.{ScanEnd}
use Rattle.jr_cut.specs.declared.scan_end.ScanEnd.TheVariants.{EndOfFile}
use Rattle.jr_cut.specs.Coded.{EndsAfter, GoesOnAfter, IsSpelledAt}
use Rattle.jr_cut.specs.Cut.{IsEnding, IsRaw, IsStop, marker}
use Rattle.jr_cut.specs.PartialSegments.{BeginsWithRestart}
use Rattle.jr_cut.proofs.CutLaw.{ending_stop, marker_stop}
use Rattle.jr_cut.proofs.Cuts.{raw_none}
use Rattle.jr_cut.proofs.Following.{restart_within}
use Rattle.jr_cut.proofs.NextSegments.{is_segment, next_is}
use Rattle.jr_cut.proofs.Slices.{split_at}
use Rattle.jr_cut.proofs.Spellings.{same_found}
use Rattle.jr_arrival.specs.Arrival.{CanBecome}
use Rattle.jr_arrival.proofs.Going.{ending_more}
use Rattle.jr_arrival.proofs.HeadsStay.{head_is_final}
use Rattle.jr_arrival.proofs.Spelled.{front_whole}
use Rattle.jr_damage.specs.Coded.{IsNextAt, IsSegmentOf}
use Rattle.jr_damage.specs.Map.{AreBytesOf}
use Rattle.jr_head.specs.HeadValue.{HeadValue}
use Rattle.jr_head.specs.Heads.{HeadOf}
use Rattle.jr_scan.specs.ScanValue.{ScanValue, intervals_of}
use Rattle.jri_memory.specs.FinalSegments.{HasNoMarkerFrom, IsFileOf, IsFinalSegment, end_of}

-- ---- a file that begins with bytes

pub record BeginsWith (bytes : List ℕ) (all : Bool) (file : List ℕ) : Type 0 where
  pub more : List ℕ
  pub is : file ≡ bytes ++ more
  pub none : all ≡ true → more ≡ []
  pub within : length file ≤ end_of all bytes

pub begins_with : (bytes : List ℕ) (all : Bool) (file : List ℕ) → IsFileOf bytes all file → BeginsWith bytes all file
begins_with bytes true file e = record { more = []; is = e ∙ sym (append-nil bytes); none = λ _. refl; within = omega (arith, ap length e) }
begins_with bytes false file can = record { more = can.more; is = can.is; none = λ e. absurd (let k = e in cc); within = can.small }

pub end_all : (bytes : List ℕ) (all : Bool) (file : List ℕ) → all ≡ true → IsFileOf bytes all file → end_of all bytes ≡ length file
end_all bytes true file e is = ap length (sym is)
end_all bytes false file e is = absurd (let k = e in cc)

pub end_few : (bytes : List ℕ) (all : Bool) → length bytes ≤ MAX_FILE_BYTES → length bytes ≤ end_of all bytes
end_few bytes true few = omega arith
end_few bytes false few = few

pub end_most : (bytes : List ℕ) (all : Bool) → length bytes ≤ MAX_FILE_BYTES → end_of all bytes ≤ MAX_FILE_BYTES
end_most bytes true few = few
end_most bytes false few = omega arith

pub more_may_come : (bytes : List ℕ) (all : Bool) (at : ℕ) → at < end_of all bytes → length bytes < at → all ≡ false
more_may_come bytes true at lt past = absurd (omega (arith, lt, past))
more_may_come bytes false at lt past = refl

pub head_in : (bytes : List ℕ) (all : Bool) (file : List ℕ) (h : HeadValue) → IsFileOf bytes all file → HeadOf bytes h → HeadOf file h
head_in bytes true file h is head = subst (λ (f : List ℕ). HeadOf f h) (sym is) head
head_in bytes false file h can head = head_is_final bytes file h can head

pub bytes_in : (bytes : List ℕ) (all : Bool) (file : List ℕ) → IsFileOf bytes all file → All (λ b. b < 256) bytes → All (λ b. b < 256) file
bytes_in bytes true file is each = subst (All (λ b. b < 256)) (sym is) each
bytes_in bytes false file can each = can.are_bytes

-- ---- what follows a segment

module _ (bytes file : List ℕ) (all : Bool) (b : BeginsWith bytes all file) (n k end : ℕ) (within : end ≤ length bytes) where
  tail_is : drop end file ≡ drop end bytes ++ b.more
  tail_is = ap (drop end) b.is ∙ drop-append-le end bytes b.more within

  longer : length bytes ≤ length file
  longer = omega (arith, ap length b.is, length-append bytes b.more)

  -- the restart marker that is due
  pub goes_on : (count : ℕ) → k + 1 < n → BeginsWithRestart k (drop end bytes) count → GoesOnAfter file n k end (min (end + count) (length file))
  goes_on count space due =
      let tail = drop end bytes in
      let fits = restart_within bytes end k count within due in
      let few : count ≤ length tail = omega (arith, fits, length-drop end bytes) in
      let m = marker due.more (RST0 + k % 8) in
      record {
        count = count;
        more = space;
        due = record {
          more = due.more;
          long = due.long;
          spelled = tail_is ∙ ap (λ (x : List ℕ). x ++ b.more) due.spelled ∙ append_assoc m (drop count tail) b.more
              ∙ ap (λ (x : List ℕ). m ++ x) (sym (ap (drop count) tail_is ∙ drop-append-le count tail b.more few));
        };
        is = omega (arith, fits, longer);
      }

  -- what ends the scan
  pub ends : (ended : ScanEnd) → (all ≡ true) ⊎ (ended ≢ EndOfFile) → IsEnding n k end (drop end bytes) ended → EndsAfter file n k end (min (end_of all bytes) (length file))
  ends ended final is =
      let final' : (ended ≢ EndOfFile) ⊎ (b.more ≡ []) = elim final [ inl e ↦ inr (b.none e) | inr not_file ↦ inl not_file ] in
      record {
        ended = ended;
        ends = subst (λ (t : List ℕ). IsEnding n k end t ended) (sym tail_is) (ending_more n k end (drop end bytes) b.more ended final' is);
        last = omega (arith, b.within);
      }

-- the data end there
pub stops_after : (file : List ℕ) (n k end next : ℕ) → GoesOnAfter file n k end next ⊎ EndsAfter file n k end next → IsStop (drop end file)
stops_after file n k end next (inl g) = marker_stop (drop end file) (RST0 + k % 8) (g.due.more, drop g.count (drop end file), g.due.spelled) (λ e. omega arith) (λ e. omega arith)
stops_after file n k end next (inr e) = ending_stop n k end (drop end file) e.ended e.ends

-- ---- a segment

pub spelled_at : (bytes : List ℕ) (at len : ℕ) (found : List ℕ) → at + len ≤ length bytes → IsRaw (take len (drop at bytes)) found → IsStop (drop (at + len) bytes)
    → IsSpelledAt bytes (record { start = at; end = at + len }) found
spelled_at bytes at len found within raw stop =
    let size : len ≡ at + len - at = omega arith in
    record { order = omega arith; within = within; raw = subst (λ (m : ℕ). IsRaw (take m (drop at bytes)) found) size raw; stop = stop }

nothing_stops : IsStop []
nothing_stops = record { more = 0; rest = []; spelled = refl; stops = inl refl }

nothing : (bytes : List ℕ) (at : ℕ) → length bytes ≤ at → drop at bytes ≡ []
nothing bytes at past = drop_all at bytes past

pub spelled_last : (bytes : List ℕ) → IsSpelledAt bytes (record { start = length bytes; end = length bytes }) []
spelled_last bytes =
    let o = length bytes in
    let size : 0 ≡ o - o = omega arith in
    record {
      order = omega arith;
      within = omega arith;
      raw = subst (λ (m : ℕ). IsRaw (take m (drop o bytes)) []) size raw_none;
      stop = subst IsStop (sym (nothing bytes o (omega arith))) nothing_stops;
    }

-- no marker

pub none_past : (bytes : List ℕ) (at : ℕ) → length bytes ≤ at → HasNoMarkerFrom bytes at
none_past bytes at past = record { raw = []; found = []; fill = 0; spelled = raw_none; are = nothing bytes at past }

pub none_to_end : (bytes : List ℕ) (at len fill : ℕ) (found : List ℕ) → IsRaw (take len (drop at bytes)) found → drop (at + len) bytes ≡ replicate fill PREFIX → HasNoMarkerFrom bytes at
none_to_end bytes at len fill found raw all = record {
  raw = take len (drop at bytes);
  found = found;
  fill = fill;
  spelled = raw;
  are = split_at bytes at len ∙ ap (λ (x : List ℕ). take len (drop at bytes) ++ x) all;
}

module _ (bytes file : List ℕ) (all : Bool) (b : BeginsWith bytes all file) (s : ScanValue) (k at len next : ℕ) (found : List ℕ) (within : at + len ≤ length bytes)
    (raw : IsRaw (take len (drop at bytes)) found) (stop : IsStop (drop (at + len) bytes))
    (follows : GoesOnAfter file (intervals_of s.head) k (at + len) (min next (length file)) ⊎ EndsAfter file (intervals_of s.head) k (at + len) (min next (length file)))
    (begins : IsNextAt file s k (min at (length file))) where
  abbrev n : ℕ
  n = intervals_of s.head

  abbrev span : CodedSpan
  span = record { start = at; end = at + len }

  long : length bytes ≤ length file
  long = omega (arith, ap length b.is, length-append bytes b.more)

  here : IsNextAt file s k at
  here = let e : min at (length file) ≡ at = omega (arith, within, long) in subst (IsNextAt file s k) e begins

  raw_there : IsRaw (take len (drop at file)) found
  raw_there = subst (λ (x : List ℕ). IsRaw x found) (sym (ap (λ (f : List ℕ). take len (drop at f)) b.is ∙ front_whole bytes b.more at len within)) raw

  stop_there : IsStop (drop (at + len) file)
  stop_there = stops_after file n k (at + len) (min next (length file)) follows

  fits : at + len ≤ length file
  fits = omega (arith, within, long)

  segment : IsSegmentOf file s k span
  segment = is_segment file n s.intervals s.ended k at len found fits raw_there stop_there here

  same_data : get_or s.intervals k [] ≡ found
  same_data =
      let size : at + len - at ≡ len = omega arith in
      same_found (take len (drop at file)) (get_or s.intervals k []) found (subst (λ (m : ℕ). IsRaw (take m (drop at file)) (get_or s.intervals k [])) size segment.spelled.raw) raw_there

  pub final : IsFinalSegment bytes file s k (record { bytes = span; next = next })
  final = record {
    spelled = subst (IsSpelledAt bytes span) (sym same_data) (spelled_at bytes at len found within raw stop);
    span = span;
    segment = segment;
    same = λ reported is. is;
    next = next_is file n s.intervals s.ended k at len found fits raw_there stop_there (min next (length file)) follows here;
  }

-- ---- the scan has ended before

no_bytes : (a from to : ℕ) (reported : Option CodedSpan) → to ≤ from → AreBytesOf (record { start = a; end = a }) reported → AreBytesOf (record { start = from; end = to }) reported
no_bytes a from to None few is = few
no_bytes a from to (Some span) few is = absurd (let less = is.1 in let e = ap (λ (x : CodedSpan). x.start) is.0 in let f = ap (λ (x : CodedSpan). x.end) is.0 in omega (arith, less, e, f))

module _ (bytes file : List ℕ) (all : Bool) (b : BeginsWith bytes all file) (s : ScanValue) (k at : ℕ) (past : end_of all bytes ≤ at) (begins : IsNextAt file s k (min at (length file))) where
  abbrev last : ℕ
  last = length file

  at_last : IsNextAt file s k last
  at_last = let e : min at last ≡ last = omega (arith, past, b.within) in subst (IsNextAt file s k) e begins

  none_left : drop (last + 0) file ≡ []
  none_left = nothing file (last + 0) (omega arith)

  ended_stop : IsStop (drop (last + 0) file)
  ended_stop = subst IsStop (sym none_left) nothing_stops

  ended : IsSegmentOf file s k (record { start = last; end = last + 0 })
  ended = is_segment file (intervals_of s.head) s.intervals s.ended k last 0 [] (omega arith) raw_none ended_stop at_last

  no_data : get_or s.intervals k [] ≡ []
  no_data =
      let size : last + 0 - last ≡ 0 = omega arith in
      same_found [] (get_or s.intervals k []) [] (subst (λ (m : ℕ). IsRaw (take m (drop last file)) (get_or s.intervals k [])) size ended.spelled.raw) raw_none

  pub final_past : (end : ℕ) → end ≡ end_of all bytes → IsFinalSegment bytes file s k (record { bytes = record { start = length bytes; end = length bytes }; next = end })
  final_past end e =
      let whole : min end last ≡ last = omega (arith, e, b.within) in
      let o = length bytes in
      let over : EndsAfter file (intervals_of s.head) k (last + 0) last = record { ended = EndOfFile; ends = (0, none_left); last = refl } in
      record {
        spelled = subst (IsSpelledAt bytes (record { start = o; end = o })) (sym no_data) (spelled_last bytes);
        span = record { start = last; end = last + 0 };
        segment = ended;
        same = λ reported is. no_bytes o last (last + 0) reported (omega arith) is;
        next = subst (IsNextAt file s (k + 1)) (sym whole) (next_is file (intervals_of s.head) s.intervals s.ended k last 0 [] (omega arith) raw_none ended_stop last (inr over) at_last);
      }
