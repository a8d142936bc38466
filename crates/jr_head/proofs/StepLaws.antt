-- A segment that passes its tests is read as it is spelled.
use Rattle.std.proofs.Common.{◌≡◌, ◌≢◌, ℕ, zero, suc, ◌+◌, ◌-◌, ◌/◌, ◌%◌, ◌<◌, Bool, true, false, eqb, ltb, List, [], ◌∷◌, ◌++◌, length, take, drop, replicate, None, refl, sym, ap, subst, ◌∙◌, append_assoc, arith}
use Rattle.std.specs.Prelude.{not, ◌&&◌, ◌==◌}
use Rattle.std.specs.List.{prefix_len}
use Rattle.std.proofs.lemmas.Bool.{eqb-true, le-ltb}
use Rattle.std.proofs.lemmas.List.{length-append, length-replicate, length-take-le}
use Rattle.byteorder.specs.Endian.{big_bytes}
use Rattle.jr_base.specs.declared.marker.TheConstants.{PREFIX, SOS}
use Rattle.jr_segments.specs.declared.refusal.Refusal.{Refusal}
use Rattle.jr_segments.specs.declared.refusal.Refusal.TheVariants.{EndsEarly, ExpectedMarker, UnexpectedMarker, NotBaseline, BadLength, SecondFrame, NoFrame}
use Rattle.jr_segments.specs.Bytes.{byte, word}
use Rattle.jr_segments.specs.Tests.{◌when◌, first_fault}
use Rattle.jr_base.specs.Fill.{fill_count}
use Rattle.jr_segments.specs.Segments.{Segment, segment_bytes, segment_at, after_segment, at_code, is_frame, is_known, is_not_baseline, has_frame, marker_tests, code_tests, length_tests, framing_tests}
use Rattle.jr_head.specs.Heads.{Passes, segment_tests, payload_tests}
use Rattle.jr_segments.proofs.TestLaws.{none_both}

-- ---- fill_count bytes

prefix_is : (k c : ℕ) (s : List ℕ) → eqb c PREFIX ≡ false → prefix_len (λ x. eqb x PREFIX) (replicate k PREFIX ++ c ∷ s) ≡ k
prefix_is zero c s e = rw e refl
prefix_is (suc k) c s e = omega (arith, prefix_is k c s e)

after_fill : (k : ℕ) (t : List ℕ) → drop k (replicate k PREFIX ++ t) ≡ t
after_fill zero t = refl
after_fill (suc k) t = after_fill k t

fill_is : (k c : ℕ) (s : List ℕ) → eqb c PREFIX ≡ false → fill_count (replicate k PREFIX ++ c ∷ s) ≡ k
fill_is k c s e =
    ap (λ (n : ℕ). length (take n (replicate k PREFIX ++ c ∷ s))) (prefix_is k c s e)
    ∙ length-take-le k (replicate k PREFIX ++ c ∷ s) (omega (arith, length-append (replicate k PREFIX) (c ∷ s), length-replicate {A = ℕ} k PREFIX))

-- ---- the length and the payload

front_of : (p rest : List ℕ) → take (length p) (p ++ rest) ≡ p
front_of [] rest = refl
front_of (x ∷ p) rest = ap (λ (t : List ℕ). x ∷ t) (front_of p rest)

back_of : (p rest : List ℕ) → drop (length p) (p ++ rest) ≡ rest
back_of [] rest = refl
back_of (x ∷ p) rest = back_of p rest

-- the bytes starting at the code
abbrev tail_of : ℕ → List ℕ → List ℕ → List ℕ
tail_of c p rest = c ∷ ((length p + 2) / 256 % 256) ∷ ((length p + 2) % 256) ∷ (p ++ rest)

word_is : (c : ℕ) (p rest : List ℕ) → length p + 2 < 65536 → word 1 (tail_of c p rest) ≡ length p + 2
word_is c p rest short = omega (arith, short)

payload_is : (c : ℕ) (p rest : List ℕ) → length p + 2 < 65536 → take (word 1 (tail_of c p rest) - 2) (p ++ rest) ≡ p
payload_is c p rest short =
    let n : word 1 (tail_of c p rest) - 2 ≡ length p = omega (arith, word_is c p rest short) in
    ap (λ (k : ℕ). take k (p ++ rest)) n ∙ front_of p rest

rest_is : (c : ℕ) (p rest : List ℕ) → length p + 2 < 65536 → drop (1 + word 1 (tail_of c p rest)) (tail_of c p rest) ≡ rest
rest_is c p rest short =
    let n : 1 + word 1 (tail_of c p rest) ≡ suc (suc (suc (length p))) = omega (arith, word_is c p rest short) in
    ap (λ (k : ℕ). drop k (tail_of c p rest)) n ∙ back_of p rest

segment_is : (f n c : ℕ) (t p rest : List ℕ) → length p + 2 < 65536 → f ≡ suc n → t ≡ tail_of c p rest
    → (let i : Segment = record { fill = f - 1; code = byte 0 t; payload = take (word 1 t - 2) (drop 3 t) } in i) ≡ record { fill = n; code = c; payload = p }
segment_is f n c t p rest short e g = let m : suc n - 1 ≡ n = omega arith in rw (e, g, m) (ap (λ (q : List ℕ). (let i : Segment = record { fill = n; code = c; payload = q } in i)) (payload_is c p rest short))

-- ---- the code

known_apart : (c other : ℕ) (b : Bool) → is_known other ≡ false → eqb c other ≡ b → is_known c ≡ true → b ≡ false
known_apart c other false unknown e h = refl
known_apart c other true unknown e h = absurd (let k = sym (rw (eqb-true c other e) at h) ∙ unknown in cc)

last_of_four : (a b c d : Bool) (r s t u : Refusal) → first_fault ((r when a) ∷ (s when b) ∷ (t when c) ∷ (u when not d) ∷ []) ≡ None → d ≡ true
last_of_four true b c d r s t u h = absurd cc
last_of_four false true c d r s t u h = absurd cc
last_of_four false false true d r s t u h = absurd cc
last_of_four false false false false r s t u h = absurd cc
last_of_four false false false true r s t u h = refl

code_known : (framed : Bool) (c : ℕ) → first_fault (code_tests framed c) ≡ None → is_known c ≡ true
unfolding code_tests
code_known framed c h =
    last_of_four (is_not_baseline c) (is_frame c && framed) ((c == SOS) && not framed) (is_known c) (NotBaseline c) SecondFrame NoFrame (UnexpectedMarker c) h

-- ---- the tests

all_four : (a b c d : Bool) (r s t u : Refusal) → a ≡ false → b ≡ false → c ≡ false → d ≡ false → first_fault ((r when a) ∷ (s when b) ∷ (t when c) ∷ (u when d) ∷ []) ≡ None
all_four a b c d r s t u ea eb ec ed = rw (ea, eb, ec, ed) refl

all_three : (a b c : Bool) (r s t : Refusal) → a ≡ false → b ≡ false → c ≡ false → first_fault ((r when a) ∷ (s when b) ∷ (t when c) ∷ []) ≡ None
all_three a b c r s t ea eb ec = rw (ea, eb, ec) refl

zero_reports : (n : ℕ) (b : Bool) → eqb n 0 ≡ b → n ≢ 0 → b ≡ false
zero_reports n false e h = refl
zero_reports n true e h = absurd (h (eqb-true n 0 e))

not_zero : (n : ℕ) → n ≢ 0 → (n == 0) ≡ false
not_zero n h = zero_reports n (n == 0) refl h

marker_there : (at n c : ℕ) (bytes s : List ℕ) → fill_count bytes ≡ suc n → at_code bytes ≡ c ∷ s → eqb c 0 ≡ false → length bytes ≢ 0 → first_fault (marker_tests at bytes) ≡ None
unfolding marker_tests
marker_there at n c bytes s f t apart long =
    all_four (length bytes == 0) (fill_count bytes == 0) (length (at_code bytes) == 0) (byte 0 (at_code bytes) == 0) EndsEarly (ExpectedMarker at) EndsEarly (ExpectedMarker (at + fill_count bytes))
    (not_zero (length bytes) long) (not_zero (fill_count bytes) (λ z. omega (arith, z, f))) (not_zero (length (at_code bytes)) (λ z. omega (arith, z, ap length t))) (rw t apart)

length_there : (code : ℕ) (c : ℕ) (p rest : List ℕ) → length p + 2 < 65536 → first_fault (length_tests code (drop 1 (tail_of c p rest))) ≡ None
unfolding length_tests
length_there code c p rest short =
    let w : word 0 (drop 1 (tail_of c p rest)) ≡ length p + 2 = omega (arith, short) in
    all_three (ltb (length (drop 1 (tail_of c p rest))) 2) (ltb (word 0 (drop 1 (tail_of c p rest))) 2) (ltb (length (drop 1 (tail_of c p rest))) (word 0 (drop 1 (tail_of c p rest)))) EndsEarly (BadLength code) EndsEarly
    (le-ltb (length (drop 1 (tail_of c p rest))) 2 (omega arith))
    (le-ltb (word 0 (drop 1 (tail_of c p rest))) 2 (omega (arith, w)))
    (le-ltb (length (drop 1 (tail_of c p rest))) (word 0 (drop 1 (tail_of c p rest))) (omega (arith, w, length-append p rest)))

framing_there : (framed : Bool) (at n c : ℕ) (bytes p rest : List ℕ) → length p + 2 < 65536 → fill_count bytes ≡ suc n → at_code bytes ≡ tail_of c p rest → length bytes ≢ 0
    → first_fault (code_tests framed c) ≡ None → first_fault (framing_tests framed at bytes) ≡ None
unfolding framing_tests
framing_there framed at n c bytes p rest short f t long passes =
    let known = code_known framed c passes in
    none_both (marker_tests at bytes) (code_tests framed (byte 0 (at_code bytes)) ++ length_tests (byte 0 (at_code bytes)) (drop 1 (at_code bytes)))
    (marker_there at n c bytes (drop 1 (tail_of c p rest)) f t (known_apart c 0 (eqb c 0) refl refl known) long)
    (none_both (code_tests framed (byte 0 (at_code bytes))) (length_tests (byte 0 (at_code bytes)) (drop 1 (at_code bytes))) (rw t passes) (rw t (length_there c c p rest short)))

-- ---- the step

-- the bytes begin with this segment, and its tests pass
pub record IsNext (before : List Segment) (bytes : List ℕ) (i : Segment) (rest : List ℕ) : Type 0 where
  pub segment : segment_at bytes ≡ i
  pub after : after_segment bytes ≡ rest
  pub passes : (at : ℕ) → first_fault (segment_tests before at bytes) ≡ None

written : (i : Segment) (rest : List ℕ) → segment_bytes i ++ rest ≡ replicate (suc i.fill) PREFIX ++ tail_of i.code i.payload rest
unfolding segment_bytes
written i rest = append_assoc (replicate (suc i.fill) PREFIX) (i.code ∷ (big_bytes 2 (length i.payload + 2) ++ i.payload)) rest

next_segment : (before : List Segment) (i : Segment) (bytes rest : List ℕ) → Passes before i → fill_count bytes ≡ suc i.fill → at_code bytes ≡ tail_of i.code i.payload rest → length bytes ≢ 0 → IsNext before bytes i rest
next_segment before i bytes rest ok f t long =
    let same : segment_at bytes ≡ i = segment_is (fill_count bytes) i.fill i.code (at_code bytes) i.payload rest ok.short f t in
    record {
      segment = same;
      after = rw t (rest_is i.code i.payload rest ok.short);
      passes = λ at. none_both (framing_tests (has_frame before) at bytes) (payload_tests before (segment_at bytes).code (segment_at bytes).payload)
          (framing_there (has_frame before) at i.fill i.code bytes i.payload rest ok.short f t long ok.code)
          (subst (λ (x : Segment). first_fault (payload_tests before x.code x.payload) ≡ None) (sym same) ok.payload);
    }

pub next_is : (before : List Segment) (i : Segment) (bytes rest : List ℕ) → Passes before i → bytes ≡ segment_bytes i ++ rest → IsNext before bytes i rest
next_is before i bytes rest ok e =
    let known = code_known (has_frame before) i.code ok.code in
    let apart : eqb i.code PREFIX ≡ false = known_apart i.code PREFIX (eqb i.code PREFIX) refl refl known in
    let w : bytes ≡ replicate (suc i.fill) PREFIX ++ tail_of i.code i.payload rest = e ∙ written i rest in
    let f : fill_count bytes ≡ suc i.fill = ap fill_count w ∙ fill_is (suc i.fill) i.code (drop 1 (tail_of i.code i.payload rest)) apart in
    let t : at_code bytes ≡ tail_of i.code i.payload rest = ap (λ (n : ℕ). drop n bytes) f ∙ ap (drop (suc i.fill)) w ∙ after_fill (suc i.fill) (tail_of i.code i.payload rest) in
    let long : length bytes ≢ 0 = λ z. omega (arith, z, ap length w, length-append (replicate (suc i.fill) PREFIX) (tail_of i.code i.payload rest), length-replicate {A = ℕ} (suc i.fill) PREFIX) in
    next_segment before i bytes rest ok f t long
