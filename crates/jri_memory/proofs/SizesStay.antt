-- The size in the first frame header of a file's first bytes is that of the file.
use Rattle.std.proofs.Common.{◌≡◌, ◌<◌, ◌≤◌, ℕ, zero, suc, ◌+◌, ◌-◌, List, [], ◌∷◌, ◌++◌, length, take, drop, refl, sym, ap, subst, ◌∙◌, arith}
use Rattle.std.proofs.lemmas.List.{drop-append-le, get_or_append_left, length-append, take-append-le}
use Rattle.jr_base.specs.Fill.{fill_count}
use Rattle.jr_base.specs.declared.marker.TheConstants.{SOI}
use Rattle.jr_segments.specs.Bytes.{byte, word}
use Rattle.jr_segments.specs.Frames.{frame_component_count, height, width}
use Rattle.jr_segments.specs.Segments.{Segment, at_code, after_segment, is_known, segment_at}
use Rattle.jr_arrival.proofs.TestsStay.{has_code}
use Rattle.jri_memory.specs.Frames.{HasFrame, HasOneSize, HasOther, HasSegment, HasSize, after_segments, is_any_frame}
use Rattle.jri_memory.proofs.Sizes.{only_size}

abbrev segment_by : ℕ → List ℕ → Segment
segment_by fill t = record { fill = fill - 1; code = byte 0 t; payload = take (word 1 t - 2) (drop 3 t) }

word_more : (t more : List ℕ) → 3 ≤ length t → word 1 (t ++ more) ≡ word 1 t
word_more [] more l = absurd (omega (arith, l))
word_more (c ∷ []) more l = absurd (omega (arith, l))
word_more (c ∷ a ∷ []) more l = absurd (omega (arith, l))
word_more (c ∷ a ∷ b ∷ r) more l = refl

segment_more : (fill : ℕ) (t more : List ℕ) → 3 ≤ length t → 1 + word 1 t ≤ length t → segment_by fill (t ++ more) ≡ segment_by fill t
segment_more fill [] more l all = absurd (omega (arith, l))
segment_more fill (c ∷ []) more l all = absurd (omega (arith, l))
segment_more fill (c ∷ a ∷ []) more l all = absurd (omega (arith, l))
segment_more fill (c ∷ a ∷ b ∷ r) more l all =
    let w = word 1 (c ∷ a ∷ b ∷ r) in
    let few : w - 2 ≤ length r = omega (arith, all) in
    ap (λ (p : List ℕ). (let i : Segment = record { fill = fill - 1; code = c; payload = p } in i)) (take-append-le (w - 2) r more few)

-- a segment is there, and is the same, if more bytes follow
record Stays (bytes more : List ℕ) : Type 0 where
  pub there : HasSegment (bytes ++ more)
  pub same : segment_at (bytes ++ more) ≡ segment_at bytes
  pub after : after_segment (bytes ++ more) ≡ after_segment bytes ++ more

stays : (bytes more : List ℕ) → HasSegment bytes → Stays bytes more
stays bytes more h =
    let long : 3 ≤ length (at_code bytes) = omega (arith, h.long, h.whole) in
    let code = has_code bytes more (omega (arith, long)) in
    let w : word 1 (at_code (bytes ++ more)) ≡ word 1 (at_code bytes) = ap (word 1) code.code ∙ word_more (at_code bytes) more long in
    record {
      there = record {
        marker = omega (arith, h.marker, code.fill);
        long = omega (arith, h.long, w);
        whole = omega (arith, h.whole, w, ap length code.code, length-append (at_code bytes) more);
      };
      same = ap (λ n. segment_by n (at_code (bytes ++ more))) code.fill ∙ ap (segment_by (fill_count bytes)) code.code ∙ segment_more (fill_count bytes) (at_code bytes) more long h.whole;
      after = ap (λ n. drop (1 + n) (at_code (bytes ++ more))) w ∙ ap (drop (1 + word 1 (at_code bytes))) code.code ∙ drop-append-le (1 + word 1 (at_code bytes)) (at_code bytes) more h.whole;
    }

after_more : (n : ℕ) (bytes more : List ℕ) → ((k : ℕ) → k < n → HasOther (after_segments k bytes)) → after_segments n (bytes ++ more) ≡ after_segments n bytes ++ more
after_more zero bytes more others = refl
after_more (suc n) bytes more others =
    let s = stays (after_segments n bytes) more (others n (omega arith)).there in
    ap after_segment (after_more n bytes more (λ k lt. others k (omega (arith, lt)))) ∙ s.after

other_more : (bytes more : List ℕ) → HasOther bytes → HasOther (bytes ++ more)
other_more bytes more h =
    let s = stays bytes more h.there in
    let code : (segment_at (bytes ++ more)).code ≡ (segment_at bytes).code = ap (λ (i : Segment). i.code) s.same in
    record { there = s.there; known = ap is_known code ∙ h.known; no_frame = ap is_any_frame code ∙ h.no_frame; no_scan = λ e. h.no_scan (sym code ∙ e) }

frame_more : (bytes more : List ℕ) (w h c : ℕ) → HasFrame bytes w h c → HasFrame (bytes ++ more) w h c
frame_more bytes more w h c f =
    let s = stays bytes more f.there in
    let payload : (segment_at bytes).payload ≡ (segment_at (bytes ++ more)).payload = ap (λ (i : Segment). i.payload) (sym s.same) in
    record {
      there = s.there;
      is_frame = ap (λ (i : Segment). is_any_frame i.code) s.same ∙ f.is_frame;
      long = subst (λ (p : List ℕ). 6 ≤ length p) payload f.long;
      width = f.width ∙ ap width payload;
      height = f.height ∙ ap height payload;
      components = f.components ∙ ap frame_component_count payload;
    }

two_bytes : (file : List ℕ) → byte 1 file ≡ SOI → 2 ≤ length file
two_bytes [] e = absurd (omega (arith, e))
two_bytes (a ∷ []) e = absurd (omega (arith, e))
two_bytes (a ∷ b ∷ r) e = omega arith

size_more : (file more : List ℕ) (w h c : ℕ) → HasSize file w h c → HasSize (file ++ more) w h c
size_more file more w h c s =
    let two : 2 ≤ length file = two_bytes file s.start in
    let after : (n : ℕ) → n ≤ s.before → after_segments n (drop 2 file) ++ more ≡ after_segments n (drop 2 (file ++ more)) =
    λ n le. sym (ap (after_segments n) (drop-append-le 2 file more two) ∙ after_more n (drop 2 file) more (λ k lt. s.others k (omega (arith, lt, le)))) in
    record {
      prefix = get_or_append_left file more 0 0 (omega (arith, two)) ∙ s.prefix;
      start = get_or_append_left file more 0 1 (omega (arith, two)) ∙ s.start;
      before = s.before;
      others = λ k lt. subst HasOther (after k (omega (arith, lt))) (other_more _ more (s.others k lt));
      frame = subst (λ (t : List ℕ). HasFrame t w h c) (after s.before (omega arith)) (frame_more _ more w h c s.frame);
    }

pub one_size_more : (file more : List ℕ) (w h c : ℕ) → HasOneSize file w h c → HasOneSize (file ++ more) w h c
one_size_more file more w h c s = let is = size_more file more w h c s.is in record { is = is; only = λ u v d has. only_size (file ++ more) w h c u v d is has }
