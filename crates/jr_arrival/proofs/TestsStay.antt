-- The tests of a marker segment whose results need no missing byte, and what follows it.
use Rattle.std.proofs.Common.{◌≡◌, ◌≢◌, inl, inr, ℕ, zero, suc, ◌+◌, ◌-◌, ◌<◌, ◌≤◌, Bool, true, false, ltb, List, [], ◌∷◌, ◌++◌, length, take, drop, refl, sym, ap, subst, ◌∙◌, arith}
use Rattle.std.specs.Prelude.{Option, Some, None, ◌==◌}
use Rattle.std.specs.List.{prefix_len}
use Rattle.std.proofs.lemmas.Bool.{cases_lt, eqb-true, ltb-false, le-ltb}
use Rattle.std.proofs.lemmas.List.{take-append-le, drop-append-le, length-append, length-drop, get_or_append_left}
use Rattle.std.proofs.lemmas.List.Folds.{length-prefix_len}
use Rattle.jr_base.specs.declared.marker.TheConstants.{PREFIX}
use Rattle.jr_segments.specs.declared.refusal.Refusal.{Refusal}
use Rattle.jr_segments.specs.declared.refusal.Refusal.TheVariants.{EndsEarly, ExpectedMarker, BadLength}
use Rattle.jr_segments.specs.Bytes.{byte, word}
use Rattle.jr_segments.specs.Tests.{Test, ◌when◌, first_fault}
use Rattle.jr_base.specs.Fill.{fill_count}
use Rattle.jr_segments.specs.Segments.{Segment, segment_at, at_code, has_frame, marker_tests, code_tests, length_tests, framing_tests}
use Rattle.jr_segments.proofs.TestLaws.{passes_first, passes_parts, first_append, first_front, none_both}
use Rattle.jr_head.specs.Heads.{segment_tests, payload_tests}

-- the result of the tests of the bytes so far, unless it is EndsEarly, is that of the tests of more bytes
pub record Stay (so_far longer : List Test) : Type 0 where
  pub passes : first_fault so_far ≡ None → first_fault longer ≡ None
  pub fails : (f : Refusal) → f ≢ EndsEarly → first_fault so_far ≡ Some f → first_fault longer ≡ Some f

pub stay_same : (ts us : List Test) → us ≡ ts → Stay ts us
stay_same ts us e = record { passes = λ h. ap first_fault e ∙ h; fails = λ f n h. ap first_fault e ∙ h }

stay_same_answer : (ts us : List Test) → first_fault us ≡ first_fault ts → Stay ts us
stay_same_answer ts us e = record { passes = λ h. e ∙ h; fails = λ f n h. e ∙ h }

pub stay_early : (ts us : List Test) → first_fault ts ≡ Some EndsEarly → Stay ts us
stay_early ts us e = record {
  passes = λ h. absurd (let k = sym e ∙ h in cc);
  fails = λ f n h. absurd (n (let k : Some f ≡ Some EndsEarly = sym h ∙ e in cc));
}

stay_append_fails : (ts us vs ws : List Test) (f : Refusal) (o : Option Refusal) → first_fault ts ≡ o → Stay ts us → (first_fault ts ≡ None → Stay vs ws) → f ≢ EndsEarly
    → first_fault (ts ++ vs) ≡ Some f → first_fault (us ++ ws) ≡ Some f
stay_append_fails ts us vs ws f None e s t n h =
    first_append us ws (s.passes e) ∙ (t e).fails f n (sym (first_append ts vs e) ∙ h)
stay_append_fails ts us vs ws f (Some g) e s t n h =
    let k : Some g ≡ Some f = sym (first_front ts vs g e) ∙ h in
    first_front us ws f (s.fails f n (e ∙ k))

-- tests one after the other
pub stay_append : (ts us vs ws : List Test) → Stay ts us → (first_fault ts ≡ None → Stay vs ws) → Stay (ts ++ vs) (us ++ ws)
stay_append ts us vs ws s t = record {
  passes = λ h. let p = passes_parts ts vs h in none_both us ws (s.passes p.0) ((t p.0).passes p.1);
  fails = λ f n h. stay_append_fails ts us vs ws f (first_fault ts) refl s t n h;
}

-- ---- the marker

fill_len : (bytes : List ℕ) → fill_count bytes ≡ prefix_len (λ b. b == PREFIX) bytes
fill_len bytes = length-prefix_len (λ b. b == PREFIX) bytes

prefix_step : (b : ℕ) (bs more : List ℕ) (t : Bool) → (b == PREFIX) ≡ t → prefix_len (λ b. b == PREFIX) (b ∷ bs) < length (b ∷ bs)
    → (prefix_len (λ b. b == PREFIX) bs < length bs → prefix_len (λ b. b == PREFIX) (bs ++ more) ≡ prefix_len (λ b. b == PREFIX) bs)
    → prefix_len (λ b. b == PREFIX) (b ∷ (bs ++ more)) ≡ prefix_len (λ b. b == PREFIX) (b ∷ bs)
prefix_step b bs more true e h go = let l = rw e at h in rw e (ap (λ n. 1 + n) (go (omega (arith, l))))
prefix_step b bs more false e h go = rw e refl

prefix_more : (bytes more : List ℕ) → prefix_len (λ b. b == PREFIX) bytes < length bytes → prefix_len (λ b. b == PREFIX) (bytes ++ more) ≡ prefix_len (λ b. b == PREFIX) bytes
prefix_more [] more h = absurd (omega (arith, h))
prefix_more (b ∷ bs) more h = prefix_step b bs more (b == PREFIX) refl h (λ l. prefix_more bs more l)

-- a code that is there stays with more bytes
pub record HasCode (bytes longer : List ℕ) (more : List ℕ) : Type 0 where
  pub fill : fill_count longer ≡ fill_count bytes
  pub code : at_code longer ≡ at_code bytes ++ more

pub has_code : (bytes more : List ℕ) → 0 < length (at_code bytes) → HasCode bytes (bytes ++ more) more
has_code bytes more h =
    let n = fill_len bytes in
    let short : prefix_len (λ b. b == PREFIX) bytes < length bytes = omega (arith, h, length-drop (fill_count bytes) bytes, n) in
    let f : fill_count (bytes ++ more) ≡ fill_count bytes = fill_len (bytes ++ more) ∙ prefix_more bytes more short ∙ sym n in
    record {
      fill = f;
      code = ap (λ k. drop k (bytes ++ more)) f ∙ drop-append-le (fill_count bytes) bytes more (omega (arith, n, short));
    }

byte_same : (bytes more : List ℕ) → 0 < length (at_code bytes) → byte 0 (at_code (bytes ++ more)) ≡ byte 0 (at_code bytes)
byte_same bytes more h = ap (byte 0) (has_code bytes more h).code ∙ get_or_append_left (at_code bytes) more 0 0 h

zero_reports : (n : ℕ) (b : Bool) → (n == 0) ≡ b → 0 < n → b ≡ false
zero_reports n false e h = refl
zero_reports n true e h = absurd (omega (arith, h, eqb-true n 0 e))

not_zero : (n : ℕ) → 0 < n → (n == 0) ≡ false
not_zero n h = zero_reports n (n == 0) refl h

zero_is : (n : ℕ) → n ≡ 0 → (n == 0) ≡ true
zero_is zero h = refl
zero_is (suc n) h = absurd (omega (arith, h))

abbrev four : ℕ → Bool → ℕ → Bool → ℕ → List Test
four at empty fill none code = (EndsEarly when empty) ∷ (ExpectedMarker at when (fill == 0)) ∷ (EndsEarly when none) ∷ (ExpectedMarker (at + fill) when (code == 0)) ∷ []

four_are : (at : ℕ) (bytes : List ℕ) → marker_tests at bytes ≡ four at (length bytes == 0) (fill_count bytes) (length (at_code bytes) == 0) (byte 0 (at_code bytes))
unfolding marker_tests
four_are at bytes = refl

four_same : (at : ℕ) (a b c d : Bool) (m n x y : ℕ) → a ≡ b → m ≡ n → c ≡ d → x ≡ y → four at a m c x ≡ four at b n d y
four_same at a b c d m n x y e f g h = rw (e, f, g, h) refl

four_early : (at : ℕ) (a b : Bool) (n x : ℕ) → a ≡ false → 0 < n → b ≡ true → first_fault (four at a n b x) ≡ Some EndsEarly
four_early at a b n x e f g = let m = not_zero n f in rw (e, m, g) refl

marker_stays_by : (at : ℕ) (bytes more : List ℕ) → 0 < length bytes → Stay (marker_tests at bytes) (marker_tests at (bytes ++ more))
marker_stays_by at bytes more some = elim (cases_lt 0 (length (at_code bytes))) [
  | inl l ↦
      let code = has_code bytes more l in
      let longer : length (bytes ++ more) ≡ length bytes + length more = length-append bytes more in
      let there : length (at_code (bytes ++ more)) ≡ length (at_code bytes) + length more = ap length code.code ∙ length-append (at_code bytes) more in
      stay_same (marker_tests at bytes) (marker_tests at (bytes ++ more))
      (four_are at (bytes ++ more)
      ∙ four_same at _ _ _ _ _ _ _ _
      (not_zero (length (bytes ++ more)) (omega (arith, longer, some)) ∙ sym (not_zero (length bytes) some))
      code.fill
      (not_zero (length (at_code (bytes ++ more))) (omega (arith, there, l)) ∙ sym (not_zero (length (at_code bytes)) l))
      (byte_same bytes more l)
      ∙ sym (four_are at bytes))
  | inr g ↦
      let none : length (at_code bytes) ≡ 0 = omega (arith, g) in
      let fill : 0 < fill_count bytes = omega (arith, none, length-drop (fill_count bytes) bytes, some) in
      stay_early (marker_tests at bytes) (marker_tests at (bytes ++ more))
      (ap first_fault (four_are at bytes) ∙ four_early at (length bytes == 0) (length (at_code bytes) == 0) (fill_count bytes) (byte 0 (at_code bytes)) (not_zero (length bytes) some) fill (zero_is (length (at_code bytes)) none))
]

pub marker_stays : (at : ℕ) (bytes more : List ℕ) → Stay (marker_tests at bytes) (marker_tests at (bytes ++ more))
marker_stays at [] more = stay_early (marker_tests at []) (marker_tests at more) (ap first_fault (four_are at []))
marker_stays at (b ∷ bs) more = marker_stays_by at (b ∷ bs) more (omega arith)

fails_third : (a b c d : Test) → first_fault (a ∷ b ∷ c ∷ d ∷ []) ≡ None → c.fails ≡ false
fails_third a b c d h = (passes_first c (d ∷ []) (passes_first b (c ∷ d ∷ []) (passes_first a (b ∷ c ∷ d ∷ []) h).1).1).0

-- if the marker's tests pass there is a code
pub code_there : (at : ℕ) (bytes : List ℕ) → first_fault (marker_tests at bytes) ≡ None → 0 < length (at_code bytes)
unfolding marker_tests
code_there at bytes h = elim (cases_lt 0 (length (at_code bytes))) [
  | inl l ↦ l
  | inr g ↦
      let none : (length (at_code bytes) == 0) ≡ true = zero_is (length (at_code bytes)) (omega (arith, g)) in
      let some = fails_third (EndsEarly when (length bytes == 0)) (ExpectedMarker at when (fill_count bytes == 0)) (EndsEarly when (length (at_code bytes) == 0)) (ExpectedMarker (at + fill_count bytes) when (byte 0 (at_code bytes) == 0)) h in
      absurd (let k = sym none ∙ some in cc)
]

-- ---- the length

abbrev three : ℕ → Bool → Bool → Bool → List Test
three code a b c = (EndsEarly when a) ∷ (BadLength code when b) ∷ (EndsEarly when c) ∷ []

three_are : (code : ℕ) (body : List ℕ) → length_tests code body ≡ three code (ltb (length body) 2) (ltb (word 0 body) 2) (ltb (length body) (word 0 body))
unfolding length_tests
three_are code body = refl

three_stay : (code : ℕ) (b c d : Bool) → (c ≡ false → d ≡ false) → Stay (three code false b c) (three code false b d)
three_stay code true c d h = stay_same_answer (three code false true c) (three code false true d) refl
three_stay code false true d h = stay_early (three code false false true) (three code false false d) refl
three_stay code false false d h = let e : d ≡ false = h refl in stay_same_answer (three code false false false) (three code false false d) (rw e refl)

three_stay_by : (code : ℕ) (a a' b b' c d : Bool) → a ≡ false → a' ≡ false → b' ≡ b → (c ≡ false → d ≡ false) → Stay (three code a b c) (three code a' b' d)
three_stay_by code a a' b b' c d e f g h = rw (e, f, g) (three_stay code b c d h)

pub length_stays : (code : ℕ) (body more : List ℕ) → Stay (length_tests code body) (length_tests code (body ++ more))
unfolding length_tests
length_stays code [] more = stay_early (length_tests code []) (length_tests code more) refl
length_stays code (a ∷ []) more = stay_early (length_tests code (a ∷ [])) (length_tests code (a ∷ more)) refl
length_stays code (a ∷ b ∷ r) more =
    let body = a ∷ b ∷ r in
    let longer = body ++ more in
    let n : length longer ≡ length body + length more = length-append body more in
    three_stay_by code (ltb (length body) 2) (ltb (length longer) 2) (ltb (word 0 body) 2) (ltb (word 0 longer) 2) (ltb (length body) (word 0 body)) (ltb (length longer) (word 0 longer))
    (le-ltb (length body) 2 (omega arith)) (le-ltb (length longer) 2 (omega arith)) refl
    (λ e. le-ltb (length longer) (word 0 body) (omega (arith, n, ltb-false (length body) (word 0 body) e)))

pub record HasLength (body : List ℕ) : Type 0 where
  pub two : 2 ≤ length body
  pub all : word 0 body ≤ length body

pub length_there : (code : ℕ) (body : List ℕ) → first_fault (length_tests code body) ≡ None → HasLength body
unfolding length_tests
length_there code body h =
    let a = passes_first (EndsEarly when ltb (length body) 2) ((BadLength code when ltb (word 0 body) 2) ∷ (EndsEarly when ltb (length body) (word 0 body)) ∷ []) h in
    let b = passes_first (BadLength code when ltb (word 0 body) 2) ((EndsEarly when ltb (length body) (word 0 body)) ∷ []) a.1 in
    let c = passes_first (EndsEarly when ltb (length body) (word 0 body)) [] b.1 in
    record { two = ltb-false (length body) 2 a.0; all = ltb-false (length body) (word 0 body) c.0 }

-- ---- a segment

pub framing_stays : (framed : Bool) (at : ℕ) (bytes more : List ℕ) → Stay (framing_tests framed at bytes) (framing_tests framed at (bytes ++ more))
unfolding framing_tests
framing_stays framed at bytes more =
    let longer = bytes ++ more in
    stay_append (marker_tests at bytes) (marker_tests at longer)
    (code_tests framed (byte 0 (at_code bytes)) ++ length_tests (byte 0 (at_code bytes)) (drop 1 (at_code bytes)))
    (code_tests framed (byte 0 (at_code longer)) ++ length_tests (byte 0 (at_code longer)) (drop 1 (at_code longer)))
    (marker_stays at bytes more)
    (λ none.
    let some = code_there at bytes none in
    let code = byte_same bytes more some in
    let body : drop 1 (at_code longer) ≡ drop 1 (at_code bytes) ++ more = ap (drop 1) (has_code bytes more some).code ∙ drop-append-le 1 (at_code bytes) more (omega (arith, some)) in
    stay_append (code_tests framed (byte 0 (at_code bytes))) (code_tests framed (byte 0 (at_code longer)))
    (length_tests (byte 0 (at_code bytes)) (drop 1 (at_code bytes))) (length_tests (byte 0 (at_code longer)) (drop 1 (at_code longer)))
    (stay_same (code_tests framed (byte 0 (at_code bytes))) (code_tests framed (byte 0 (at_code longer))) (ap (code_tests framed) code))
    (λ known.
    subst (Stay (length_tests (byte 0 (at_code bytes)) (drop 1 (at_code bytes))))
    (ap (λ c. length_tests c (drop 1 (at_code bytes) ++ more)) (sym code) ∙ ap (length_tests (byte 0 (at_code longer))) (sym body))
    (length_stays (byte 0 (at_code bytes)) (drop 1 (at_code bytes)) more)))

abbrev segment_by : ℕ → List ℕ → Segment
segment_by fill t = record { fill = fill - 1; code = byte 0 t; payload = take (word 1 t - 2) (drop 3 t) }

segment_more : (fill : ℕ) (t more : List ℕ) → HasLength (drop 1 t) → segment_by fill (t ++ more) ≡ segment_by fill t
segment_more fill [] more l = absurd (omega (arith, l.two))
segment_more fill (c ∷ []) more l = absurd (omega (arith, l.two))
segment_more fill (c ∷ a ∷ []) more l = absurd (omega (arith, l.two))
segment_more fill (c ∷ a ∷ b ∷ r) more l =
    let w = word 0 (a ∷ b ∷ r) in
    let all : w ≤ length (a ∷ b ∷ r) = l.all in
    let few : w - 2 ≤ length r = omega (arith, all) in
    ap (λ (p : List ℕ). (let i : Segment = record { fill = fill - 1; code = c; payload = p } in i)) (take-append-le (w - 2) r more few)

pub segment_same : (framed : Bool) (at : ℕ) (bytes more : List ℕ) → first_fault (framing_tests framed at bytes) ≡ None → segment_at (bytes ++ more) ≡ segment_at bytes
unfolding framing_tests
segment_same framed at bytes more h =
    let p = passes_parts (marker_tests at bytes) (code_tests framed (byte 0 (at_code bytes)) ++ length_tests (byte 0 (at_code bytes)) (drop 1 (at_code bytes))) h in
    let q = passes_parts (code_tests framed (byte 0 (at_code bytes))) (length_tests (byte 0 (at_code bytes)) (drop 1 (at_code bytes))) p.1 in
    let code = has_code bytes more (code_there at bytes p.0) in
    ap (λ n. segment_by n (at_code (bytes ++ more))) code.fill ∙ ap (segment_by (fill_count bytes)) code.code
    ∙ segment_more (fill_count bytes) (at_code bytes) more (length_there (byte 0 (at_code bytes)) (drop 1 (at_code bytes)) q.1)

-- all tests of a segment
pub segment_stays : (before : List Segment) (at : ℕ) (bytes more : List ℕ) → Stay (segment_tests before at bytes) (segment_tests before at (bytes ++ more))
segment_stays before at bytes more =
    let longer = bytes ++ more in
    stay_append (framing_tests (has_frame before) at bytes) (framing_tests (has_frame before) at longer)
    (payload_tests before (segment_at bytes).code (segment_at bytes).payload) (payload_tests before (segment_at longer).code (segment_at longer).payload)
    (framing_stays (has_frame before) at bytes more)
    (λ none.
    stay_same (payload_tests before (segment_at bytes).code (segment_at bytes).payload) (payload_tests before (segment_at longer).code (segment_at longer).payload)
    (ap (λ (i : Segment). payload_tests before i.code i.payload) (segment_same (has_frame before) at bytes more none)))
