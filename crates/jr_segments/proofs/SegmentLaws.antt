-- A segment that passes the tests of its framing has the bytes of its spelling.
use Rattle.std.proofs.Common.{◌≡◌, ◌≢◌, ℕ, suc, ◌+◌, ◌-◌, ◌*◌, ◌/◌, ◌%◌, ◌<◌, ◌≤◌, Bool, true, false, cond, eqb, ltb, List, [], ◌∷◌, ◌++◌, length, get_or, take, drop, replicate, None, refl, sym, ap, ◌∙◌, append_assoc, arith}
use Rattle.std.specs.List.{prefix_len}
use Rattle.std.specs.Prelude.{◌==◌}
use Rattle.std.proofs.lemmas.List.{take-append-drop, drop-drop, length-take, length-drop, get_or-drop}
use Rattle.std.proofs.lemmas.Bool.{eqb-true, eqb-false, ltb-false}
use Rattle.byteorder.specs.Endian.{big_bytes}
use Rattle.jr_base.specs.declared.marker.TheConstants.{PREFIX}
use Rattle.jr_segments.specs.declared.refusal.Refusal.{Refusal}
use Rattle.jr_segments.specs.declared.refusal.Refusal.TheVariants.{EndsEarly, ExpectedMarker, BadLength}
use Rattle.jr_segments.specs.Bytes.{byte, word}
use Rattle.jr_segments.specs.Tests.{◌when◌, first_fault}
use Rattle.jr_base.specs.Fill.{fill_count}
use Rattle.jr_segments.specs.Segments.{segment_bytes, segment_at, after_segment, at_code, marker_tests, code_tests, length_tests, framing_tests}
use Rattle.jr_segments.proofs.TestLaws.{passes_parts}

abbrev pub IsBytes : List ℕ → Type 0
IsBytes bytes = (i : ℕ) → get_or bytes i 0 < 256

pub IsBytes-drop : (n : ℕ) (bytes : List ℕ) → IsBytes bytes → IsBytes (drop n bytes)
IsBytes-drop n bytes h i = rw get_or-drop (h (n + i))

front_case : (b : ℕ) (bs : List ℕ) (t : Bool) → eqb b PREFIX ≡ t → bs ≡ replicate (fill_count bs) PREFIX ++ at_code bs
    → b ∷ bs ≡ replicate (length (take (cond t (1 + prefix_len (λ x. eqb x PREFIX) bs) 0) (b ∷ bs))) PREFIX ++ drop (length (take (cond t (1 + prefix_len (λ x. eqb x PREFIX) bs) 0) (b ∷ bs))) (b ∷ bs)
front_case b bs true e h =
    let s : 1 + prefix_len (λ x. eqb x PREFIX) bs ≡ suc (prefix_len (λ x. eqb x PREFIX) bs) = omega arith in
    rw s (ap (λ (x : ℕ). x ∷ bs) (eqb-true b PREFIX e) ∙ ap (λ (t : List ℕ). PREFIX ∷ t) h)
front_case b bs false e h = refl

-- FF bytes are before the code
pub front_is : (bytes : List ℕ) → bytes ≡ replicate (fill_count bytes) PREFIX ++ at_code bytes
front_is [] = refl
front_is (b ∷ bs) = front_case b bs (eqb b PREFIX) refl (front_is bs)

two_bytes : (a b : ℕ) → a < 256 → b < 256 → big_bytes 2 (a * 256 + b) ≡ a ∷ b ∷ []
two_bytes a b fa fb =
    let top : (a * 256 + b) / 256 % 256 ≡ a = omega arith in
    let bottom : (a * 256 + b) % 256 ≡ b = omega arith in
    rw (top, bottom) refl

-- the length and the payload
body_is : (body : List ℕ) → IsBytes body → 2 ≤ length body → 2 ≤ word 0 body → word 0 body ≤ length body
    → (body ≡ big_bytes 2 (length (take (word 0 body - 2) (drop 2 body)) + 2) ++ (take (word 0 body - 2) (drop 2 body) ++ drop (word 0 body) body)) × (length (take (word 0 body - 2) (drop 2 body)) + 2 < 65536)
body_is [] fits h k l = absurd (omega (arith, h))
body_is (a ∷ []) fits h k l = absurd (omega (arith, h))
body_is (a ∷ b ∷ rest) fits h k l =
    let fa : a < 256 = fits 0 in
    let fb : b < 256 = fits 1 in
    let len : length (take (word 0 (a ∷ b ∷ rest) - 2) rest) + 2 ≡ a * 256 + b = omega (arith, length-take (word 0 (a ∷ b ∷ rest) - 2) rest) in
    let numbers : big_bytes 2 (length (take (word 0 (a ∷ b ∷ rest) - 2) rest) + 2) ≡ a ∷ b ∷ [] = ap (big_bytes 2) len ∙ two_bytes a b fa fb in
    let two : drop (word 0 (a ∷ b ∷ rest)) (a ∷ b ∷ rest) ≡ drop (word 0 (a ∷ b ∷ rest) - 2) rest =
    let e : word 0 (a ∷ b ∷ rest) ≡ 2 + (word 0 (a ∷ b ∷ rest) - 2) = omega arith in
    ap (λ (n : ℕ). drop n (a ∷ b ∷ rest)) e ∙ sym (drop-drop (word 0 (a ∷ b ∷ rest) - 2) 2 (a ∷ b ∷ rest)) in (
      ap (λ (t : List ℕ). a ∷ b ∷ t) (sym (take-append-drop (word 0 (a ∷ b ∷ rest) - 2) rest) ∙ ap (λ (t : List ℕ). take (word 0 (a ∷ b ∷ rest) - 2) rest ++ t) (sym two))
          ∙ ap (λ (t : List ℕ). t ++ (take (word 0 (a ∷ b ∷ rest) - 2) rest ++ drop (word 0 (a ∷ b ∷ rest)) (a ∷ b ∷ rest))) (sym numbers),
      omega (arith, len, fa, fb),
    )

-- the facts about bytes that pass the tests of the framing
pub record Framed (framed : Bool) (bytes : List ℕ) : Type 0 where
  pub is : bytes ≡ segment_bytes (segment_at bytes) ++ after_segment bytes
  pub short : length (segment_at bytes).payload + 2 < 65536
  pub code : first_fault (code_tests framed (segment_at bytes).code) ≡ None
  pub shorter : length (after_segment bytes) < length bytes

head_and_tail : (s : List ℕ) → length s ≢ 0 → s ≡ byte 0 s ∷ drop 1 s
head_and_tail [] h = absurd (h refl)
head_and_tail (x ∷ xs) h = refl

assembled : (bytes : List ℕ) → fill_count bytes ≢ 0 → length (at_code bytes) ≢ 0
    → drop 1 (at_code bytes) ≡ big_bytes 2 (length (segment_at bytes).payload + 2) ++ ((segment_at bytes).payload ++ after_segment bytes) → bytes ≡ segment_bytes (segment_at bytes) ++ after_segment bytes
unfolding segment_bytes
assembled bytes filled long body =
    let n : fill_count bytes ≡ suc (fill_count bytes - 1) = omega (arith, filled) in
    let code : at_code bytes ≡ byte 0 (at_code bytes) ∷ drop 1 (at_code bytes) = head_and_tail (at_code bytes) long in
    front_is bytes
    ∙ ap (λ (k : ℕ). replicate k PREFIX ++ at_code bytes) n
    ∙ ap (λ (t : List ℕ). replicate (suc (fill_count bytes - 1)) PREFIX ++ t) (code ∙ ap (λ (t : List ℕ). byte 0 (at_code bytes) ∷ t) (body ∙ sym (append_assoc (big_bytes 2 (length (segment_at bytes).payload + 2)) (segment_at bytes).payload (after_segment bytes))))
    ∙ sym (append_assoc (replicate (suc (fill_count bytes - 1)) PREFIX) (byte 0 (at_code bytes) ∷ (big_bytes 2 (length (segment_at bytes).payload + 2) ++ (segment_at bytes).payload)) (after_segment bytes))

three : (a b c : Bool) (r s t : Refusal) → first_fault ((r when a) ∷ (s when b) ∷ (t when c) ∷ []) ≡ None → (a ≡ false) × (b ≡ false) × (c ≡ false)
three true b c r s t h = absurd cc
three false true c r s t h = absurd cc
three false false true r s t h = absurd cc
three false false false r s t h = (refl, refl, refl)

four : (a b c d : Bool) (r s t u : Refusal) → first_fault ((r when a) ∷ (s when b) ∷ (t when c) ∷ (u when d) ∷ []) ≡ None → (a ≡ false) × (b ≡ false) × (c ≡ false) × (d ≡ false)
four true b c d r s t u h = absurd cc
four false true c d r s t u h = absurd cc
four false false true d r s t u h = absurd cc
four false false false true r s t u h = absurd cc
four false false false false r s t u h = (refl, refl, refl, refl)

marker_passes : (at : ℕ) (bytes : List ℕ) → first_fault (marker_tests at bytes) ≡ None → (fill_count bytes ≢ 0) × (length (at_code bytes) ≢ 0)
unfolding marker_tests
marker_passes at bytes h =
    let m = four (length bytes == 0) (fill_count bytes == 0) (length (at_code bytes) == 0) (byte 0 (at_code bytes) == 0) EndsEarly (ExpectedMarker at) EndsEarly (ExpectedMarker (at + fill_count bytes)) h in
    (eqb-false (fill_count bytes) 0 m.1, eqb-false (length (at_code bytes)) 0 m.2)

length_passes : (code : ℕ) (body : List ℕ) → first_fault (length_tests code body) ≡ None → (2 ≤ length body) × (2 ≤ word 0 body) × (word 0 body ≤ length body)
unfolding length_tests
length_passes code body h =
    let m = three (ltb (length body) 2) (ltb (word 0 body) 2) (ltb (length body) (word 0 body)) EndsEarly (BadLength code) EndsEarly h in
    (ltb-false (length body) 2 m.0, ltb-false (word 0 body) 2 m.1, ltb-false (length body) (word 0 body) m.2)

pub framed_is : (framed : Bool) (at : ℕ) (bytes : List ℕ) → IsBytes bytes → first_fault (framing_tests framed at bytes) ≡ None → Framed framed bytes
unfolding framing_tests
framed_is framed at bytes fits h =
    let parts = passes_parts (marker_tests at bytes) (code_tests framed (byte 0 (at_code bytes)) ++ length_tests (byte 0 (at_code bytes)) (drop 1 (at_code bytes))) h in
    let later = passes_parts (code_tests framed (byte 0 (at_code bytes))) (length_tests (byte 0 (at_code bytes)) (drop 1 (at_code bytes))) parts.1 in
    let m = marker_passes at bytes parts.0 in
    let l = length_passes (byte 0 (at_code bytes)) (drop 1 (at_code bytes)) later.1 in
    let whole = body_is (drop 1 (at_code bytes)) (IsBytes-drop 1 (at_code bytes) (IsBytes-drop (fill_count bytes) bytes fits)) l.0 l.1 l.2 in
    let p : take (word 0 (drop 1 (at_code bytes)) - 2) (drop 2 (drop 1 (at_code bytes))) ≡ (segment_at bytes).payload = ap (take (word 0 (drop 1 (at_code bytes)) - 2)) (drop-drop 2 1 (at_code bytes)) in
    let r : drop (word 0 (drop 1 (at_code bytes))) (drop 1 (at_code bytes)) ≡ after_segment bytes = drop-drop (word 0 (drop 1 (at_code bytes))) 1 (at_code bytes) in
    record {
      is = assembled bytes m.0 m.1 (rw (p, r) at whole.0);
      short = rw p at whole.1;
      code = later.0;
      shorter = omega (arith, length-drop (1 + word 1 (at_code bytes)) (at_code bytes), length-drop (fill_count bytes) bytes, m.0, m.1, l.1);
    }
