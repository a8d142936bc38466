-- Data bytes are unstuffed run by run.
use Rattle.std.proofs.Common.{◌≡◌, ◌≢◌, ℕ, zero, suc, ◌+◌, ◌-◌, ◌<◌, ◌≤◌, List, [], ◌∷◌, ◌++◌, length, map, take, drop, get_or, replicate, refl, sym, ap, subst, ◌∙◌, append_assoc, length-append, length-drop, add-one, arith}
use Rattle.std.specs.List.{flat_map, All}
use Rattle.std.proofs.lemmas.List.{append-nil, take_more, take-append-le, drop-append-le, get_or-drop, length-take-le, take_all, drop-drop, map_push}
use Rattle.std.proofs.Math.Seq.{paste, drop-append_seam, take-add}
use Rattle.std.proofs.lemmas.List.Edits.{drop-paste}
use Rattle.jr_base.specs.declared.marker.TheConstants.{PREFIX}
use Rattle.jr_cut.specs.Cut.{Spelling, spelling, byte_spelled, IsRaw, IsStop}
use Rattle.jr_cut.specs.Cut.Spelling.{Plain, Stuffed}
use Rattle.jr_cut.specs.declared.span.Span.{Span}
use Rattle.jr_cut.specs.Spans.{segment_data, IsSpanOf, Unstuffs}
use Rattle.jr_cut.proofs.Cuts.{raw_none, raw_plain, raw_stuffed, fill_next, SegmentRead, segment_read}

-- bytes other than FF spell themselves
pub raw_run : (bytes found : List ℕ) (at n : ℕ) → at + n ≤ length bytes → ((k : ℕ) → k < n → get_or (drop at bytes) k 0 ≢ PREFIX) → IsRaw (take at bytes) found → IsRaw (take (at + n) bytes) (found ++ take n (drop at bytes))
raw_run bytes found at zero space plain r =
    let e : at + 0 ≡ at = omega arith in
    subst (λ (k : ℕ). IsRaw (take k bytes) (found ++ [])) (sym e) (subst (λ (x : List ℕ). IsRaw (take at bytes) x) (sym (append-nil found)) r)
raw_run bytes found at (suc n) space plain r =
    let before = raw_run bytes found at n (omega arith) (λ k lt. plain k (omega arith)) r in
    let byte : get_or (drop at bytes) n 0 ≡ get_or bytes (at + n) 0 = get_or-drop at bytes n 0 in
    let one = raw_plain bytes (found ++ take n (drop at bytes)) (at + n) (omega arith) (λ e. plain n (omega arith) (byte ∙ e)) before in
    let at_end : at + n + 1 ≡ at + suc n = omega arith in
    let grown : (found ++ take n (drop at bytes)) ++ get_or bytes (at + n) 0 ∷ [] ≡ found ++ take (suc n) (drop at bytes)
    = append_assoc found (take n (drop at bytes)) (get_or bytes (at + n) 0 ∷ []) ∙ ap (λ (x : ℕ). found ++ (take n (drop at bytes) ++ x ∷ [])) (sym byte) ∙ ap (λ (x : List ℕ). found ++ x) (sym (take_more (drop at bytes) n 0 (omega (arith, length-drop at bytes)))) ∙ ap (λ (k : ℕ). found ++ take k (drop at bytes)) (add-one n) in
    subst (λ (k : ℕ). IsRaw (take k bytes) (found ++ take (suc n) (drop at bytes))) at_end (subst (λ (x : List ℕ). IsRaw (take (at + n + 1) bytes) x) grown one)

pub plain_next : (bytes : List ℕ) (at n : ℕ) → at + n < length bytes → (n < length (drop at bytes) → get_or (drop at bytes) n 0 ≡ PREFIX) → get_or bytes (at + n) 0 ≡ PREFIX
plain_next bytes at n lt next = sym (get_or-drop at bytes n 0) ∙ next (omega (arith, length-drop at bytes))

pub unstuffs_none : (bytes old : List ℕ) → Unstuffs (take 0 bytes) old old
unstuffs_none bytes old = record { added = []; is = raw_none; joins = sym (append-nil old) }

pub unstuffs_run : (bytes old new new' : List ℕ) (at n : ℕ) → at + n ≤ length bytes → ((k : ℕ) → k < n → get_or (drop at bytes) k 0 ≢ PREFIX) → new' ≡ new ++ take n (drop at bytes) → Unstuffs (take at bytes) old new → Unstuffs (take (at + n) bytes) old new'
unstuffs_run bytes old new new' at n space plain wrote u =
    record {
      added = u.added ++ take n (drop at bytes);
      is = raw_run bytes u.added at n space plain u.is;
      joins = wrote ∙ ap (λ (x : List ℕ). x ++ take n (drop at bytes)) u.joins ∙ append_assoc old u.added (take n (drop at bytes));
    }

pub unstuffs_stuffed : (bytes old new new' : List ℕ) (at n : ℕ) → at + n < length bytes → take n (drop at bytes) ≡ replicate n PREFIX → 0 < n → get_or bytes (at + n) 0 ≡ 0 → new' ≡ new ++ PREFIX ∷ [] → Unstuffs (take at bytes) old new → Unstuffs (take (at + n + 1) bytes) old new'
unstuffs_stuffed bytes old new new' at n space full some zero_byte wrote u =
    record {
      added = u.added ++ PREFIX ∷ [];
      is = raw_stuffed bytes u.added at n space full some zero_byte u.is;
      joins = wrote ∙ ap (λ (x : List ℕ). x ++ PREFIX ∷ []) u.joins ∙ append_assoc old u.added (PREFIX ∷ []);
    }

spelled_long : (parts : List Spelling) → length (map byte_spelled parts) ≤ length (flat_map spelling parts)
spelled_long [] = omega arith
spelled_long (p ∷ ps) = omega (arith, length-append (spelling p) (flat_map spelling ps), spelled_long ps, some p)
  where
    some : (p : Spelling) → 1 ≤ length (spelling p)
    some (Plain b) = omega arith
    some (Stuffed n) = omega arith

-- data are no longer than what spells them
pub raw_long : (raw bytes : List ℕ) → IsRaw raw bytes → length bytes ≤ length raw
raw_long raw bytes r = omega (arith, ap length r.spelled, ap length r.means, spelled_long r.parts)

segment_kept : (old added : List ℕ) (s : Span) → IsSpanOf old s → segment_data (old ++ added) s ≡ segment_data old s
segment_kept old added s w =
    ap (take (s.end - s.start)) (drop-append-le s.start old added (omega (arith, w.0, w.1))) ∙ take-append-le (s.end - s.start) (drop s.start old) added (omega (arith, length-drop s.start old, w.1))

-- the segments stay the same if others are written after them
pub segments_kept : (old added : List ℕ) (spans : List Span) → All (IsSpanOf old) spans → map (segment_data (old ++ added)) spans ≡ map (segment_data old) spans
segments_kept old added [] within = refl
segments_kept old added (s ∷ ss) within =
    let first : segment_data (old ++ added) s ≡ segment_data old s = segment_kept old added s (within 0 s (omega arith)) in
    let rest : map (segment_data (old ++ added)) ss ≡ map (segment_data old) ss = segments_kept old added ss (λ k d lt. within (suc k) d (omega arith)) in
    cc

pub segment_added : (old added : List ℕ) (s : Span) → s.start ≡ length old → s.end ≡ length (old ++ added) → segment_data (old ++ added) s ≡ added
segment_added old added s from to =
    ap (λ (k : ℕ). take (s.end - s.start) (drop k (old ++ added))) from ∙ ap (take (s.end - s.start)) (drop-append_seam old added) ∙ take_all (s.end - s.start) added (omega (arith, from, to, length-append old added))

pub segments_more : (old added new : List ℕ) (spans spans' : List Span) (s : Span) → new ≡ old ++ added → All (IsSpanOf old) spans → s.start ≡ length old → s.end ≡ length new → spans' ≡ spans ++ s ∷ [] → map (segment_data new) spans' ≡ map (segment_data old) spans ++ added ∷ []
segments_more old added new spans spans' s e within from to pushed =
    ap (λ (x : List ℕ). map (segment_data x) spans') e ∙ ap (map (segment_data (old ++ added))) pushed ∙ map_push (segment_data (old ++ added)) spans s ∙ ap (λ (x : List (List ℕ)). x ++ segment_data (old ++ added) s ∷ []) (segments_kept old added spans within) ∙ ap (λ (x : List ℕ). map (segment_data old) spans ++ x ∷ []) (segment_added old added s from (to ∙ ap length e))

pub within_more : (old added new : List ℕ) (spans spans' : List Span) (s : Span) → new ≡ old ++ added → All (IsSpanOf old) spans → s.start ≡ length old → s.end ≡ length new → spans' ≡ spans ++ s ∷ [] → All (IsSpanOf new) spans'
within_more old added new spans spans' s e within from to pushed =
    subst (All (IsSpanOf new)) (sym pushed) (push spans (λ k d lt. let w = within k d lt in (w.0, omega (arith, w.1, ap length e, length-append old added))))
  where
    push : (ss : List Span) → All (IsSpanOf new) ss → All (IsSpanOf new) (ss ++ s ∷ [])
    push [] w zero d lt = (omega (arith, from, to, ap length e, length-append old added), omega (arith, to))
    push [] w (suc k) d lt = absurd (omega arith)
    push (t ∷ ss) w zero d lt = w 0 d (omega arith)
    push (t ∷ ss) w (suc k) d lt = push ss (λ j d lt. w (suc j) d (omega arith)) k d (omega arith)

-- a segment that was read at an offset, and what is there with it
pub record SegmentMade (bytes old new : List ℕ) (spans spans' : List Span) (at count : ℕ) : Type 0 where
  pub found : List ℕ
  pub read : SegmentRead bytes found at count
  pub segments : map (segment_data new) spans' ≡ map (segment_data old) spans ++ found ∷ []
  pub within : All (IsSpanOf new) spans'
  pub few : length new ≤ at + count

pub segment_made : (bytes now left old new : List ℕ) (spans spans' : List Span) (at count : ℕ) (s : Span) → at ≤ length bytes → length old ≤ at → now ≡ drop at bytes
    → count ≤ length now → Unstuffs (take count now) old new → left ≡ drop count now → IsStop left
    → All (IsSpanOf old) spans → s.start ≡ length old → s.end ≡ length new → spans' ≡ spans ++ s ∷ [] → SegmentMade bytes old new spans spans' at count
segment_made bytes now left old new spans spans' at count s h few e space u after stop within from to pushed =
    let room' = subst (λ (x : List ℕ). count ≤ length x) e space in
    let u' = subst (λ (x : List ℕ). Unstuffs (take count x) old new) e u in
    let stop' = subst IsStop (after ∙ ap (drop count) e) stop in
    let long = raw_long (take count (drop at bytes)) u'.added u'.is in
    record {
      found = u'.added;
      read = segment_read bytes u'.added at count h room' u'.is stop';
      segments = segments_more old u'.added new spans spans' s u'.joins within from to pushed;
      within = within_more old u'.added new spans spans' s u'.joins within from to pushed;
      few = omega (arith, long, length-take-le count (drop at bytes) room', ap length u'.joins, length-append old u'.added, few);
    }

-- the bytes that are not read yet are unchanged if bytes are moved to the start
pub moved_rest : (bytes : List ℕ) (found at count n : ℕ) → found ≤ at → at ≤ length bytes → count ≤ length (drop at bytes) → n ≡ count → drop (at + count) (paste bytes found (drop at bytes) n) ≡ drop count (drop at bytes)
moved_rest bytes found at count n before within few e =
    let more = at - found in
    let place : found + n + more ≡ at + count = omega arith in
    let p = paste bytes found (drop at bytes) n in
    ap (λ (k : ℕ). drop k p) (sym place) ∙ sym (drop-drop more (found + n) p) ∙ ap (drop more) (drop-paste bytes found (drop at bytes) n (omega arith) (omega arith)) ∙ drop-drop more (found + n) bytes ∙ ap (λ (k : ℕ). drop k bytes) place ∙ sym (drop-drop count at bytes)

-- bytes other than FF are read at an offset, up to an FF byte or the end
pub record RunMade (bytes old new rest : List ℕ) (at count : ℕ) : Type 0 where
  pub within : at + count ≤ length bytes
  pub is : Unstuffs (take (at + count) bytes) old new
  pub left : rest ≡ drop (at + count) bytes
  pub next : at + count < length bytes → get_or bytes (at + count) 0 ≡ PREFIX

pub run_made : (bytes old before now new rest slice : List ℕ) (at count : ℕ) → at ≤ length bytes → now ≡ drop at bytes → Unstuffs (take at bytes) old before → slice ≡ now
    → count ≤ length slice → ((k : ℕ) → k < count → get_or slice k 0 ≢ PREFIX) → (count < length slice → get_or slice count 0 ≡ PREFIX)
    → new ≡ before ++ take count now → rest ≡ drop count now → RunMade bytes old new rest at count
run_made bytes old before now new rest slice at count h e u es space plain next wrote left =
    let whole : slice ≡ drop at bytes = es ∙ e in
    let room' = subst (λ (x : List ℕ). count ≤ length x) whole space in
    let plain' = subst (λ (x : List ℕ). (k : ℕ) → k < count → get_or x k 0 ≢ PREFIX) whole plain in
    let next' = subst (λ (x : List ℕ). count < length x → get_or x count 0 ≡ PREFIX) whole next in
    let within : at + count ≤ length bytes = omega (arith, room', length-drop at bytes) in
    record {
      within = within;
      is = unstuffs_run bytes old before new at count within plain' (wrote ∙ ap (λ (x : List ℕ). before ++ take count x) e) u;
      left = left ∙ ap (drop count) e ∙ drop-drop count at bytes;
      next = λ lt. plain_next bytes at count lt next';
    }

-- FF bytes after it
pub record FillMade (bytes : List ℕ) (at n : ℕ) : Type 0 where
  pub full : take n (drop at bytes) ≡ replicate n PREFIX
  pub next : at + n < length bytes → get_or bytes (at + n) 0 ≢ PREFIX

pub fill_made : (bytes rest slice : List ℕ) (at n : ℕ) → at ≤ length bytes → rest ≡ drop at bytes → slice ≡ rest → take n slice ≡ replicate n PREFIX → (n < length slice → get_or slice n 0 ≢ PREFIX) → FillMade bytes at n
fill_made bytes rest slice at n h e es full next =
    let whole : slice ≡ drop at bytes = es ∙ e in
    let next' = subst (λ (x : List ℕ). n < length x → get_or x n 0 ≢ PREFIX) whole next in
    record {
      full = subst (λ (x : List ℕ). take n x ≡ replicate n PREFIX) whole full;
      next = λ lt. fill_next bytes at n lt next';
    }

-- the byte after them, as the slice that it is read from
pub code_in : (bytes rest slice : List ℕ) (at n : ℕ) → rest ≡ drop at bytes → slice ≡ rest → get_or slice n 0 ≡ get_or bytes (at + n) 0
code_in bytes rest slice at n e es = ap (λ (x : List ℕ). get_or x n 0) (es ∙ e) ∙ get_or-drop at bytes n 0

pub left_in : (bytes rest slice : List ℕ) (at : ℕ) → rest ≡ drop at bytes → slice ≡ rest → length slice ≡ length bytes - at
left_in bytes rest slice at e es = ap length (es ∙ e) ∙ length-drop at bytes

-- what is left of bytes after what is read of them
pub left_after : (bytes now left : List ℕ) (at count : ℕ) → now ≡ drop at bytes → left ≡ drop count now → left ≡ drop (at + count) bytes
left_after bytes now left at count e after = after ∙ ap (drop count) e ∙ drop-drop count at bytes

-- further FF bytes after FF bytes
pub fill_more : (xs : List ℕ) (at n m : ℕ) → take n (drop at xs) ≡ replicate n PREFIX → take m (drop (at + n) xs) ≡ replicate m PREFIX → take (n + m) (drop at xs) ≡ replicate (n + m) PREFIX
fill_more xs at n m before after =
    take-add n m (drop at xs) ∙ ap (λ (l : List ℕ). l ++ take m (drop n (drop at xs))) before ∙ ap (λ (l : List ℕ). replicate n PREFIX ++ take m l) (drop-drop n at xs) ∙ ap (λ (l : List ℕ). replicate n PREFIX ++ l) after ∙ joined n m
  where
    joined : (n m : ℕ) → replicate n PREFIX ++ replicate m PREFIX ≡ replicate (n + m) PREFIX
    joined zero m = let z : 0 + m ≡ m = omega arith in ap (λ (k : ℕ). replicate k PREFIX) (sym z)
    joined (suc n) m = let z : suc n + m ≡ suc (n + m) = omega arith in ap (λ (l : List ℕ). PREFIX ∷ l) (joined n m) ∙ ap (λ (k : ℕ). replicate k PREFIX) (sym z)
